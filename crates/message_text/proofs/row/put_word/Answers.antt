use Rattle.std.proofs.Common.{◌≡◌, ◌+◌, ◌++◌, length, take, sym, ap, ◌∙◌, arith}
use Rattle.std.proofs.lemmas.List.{length-take-le}
use Rattle.message_text.proofs.RowLemmas.{less_written}
use Rattle.message_text.proofs.row.put_word.Goals as goal

pub returns-clause-text : goal.returns-clause-text
returns-clause-text g c =
    let at = c.args.at in
    let n = g.row.N in
    let new = c.put-behind.new.row in
    let word : length c.in_ok-word.field-0.now ≡ n = ap length c.in_ok-word.ensures.cases.same ∙ length-take-le n c.args.front.now c.in_ok-word.ensures.cases.enough in
    let end : c.put-behind.result ≡ at + n = omega (arith, c.put-behind.ensures.end, word) in
    let written : take (at + n) new ≡ take at c.args.row.now ++ take n c.args.front.now = ap (λ k. take k new) (sym end) ∙ c.put-behind.ensures.text ∙ ap (λ z. take at c.args.row.now ++ z) c.in_ok-word.ensures.cases.same in
    less_written c.args.row.now new c.args.front.now at n c.args.size written (omega (arith, c.requires.few)) (omega (arith, c.requires.room))
