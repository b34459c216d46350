use Rattle.std.proofs.Common.{◌≡◌, ◌++◌, length, take, drop, rules, sym, ap, ◌∙◌}
use Rattle.std.proofs.lemmas.List.{take-append-drop}
use Rattle.rank_cert.proofs.Ranked.{take-to-end}
use Rattle.rank_cert.proofs.row.behind_word.Goals as goal

pub returns : goal.returns
returns c =
    let text = c.args.text.now in
    let word = c.args.word.now in
    let front : take (length word) text ≡ word = search rules in
    rw (take-to-end text (length word)) (sym (ap (λ xs. xs ++ drop (length word) text) (sym front) ∙ take-append-drop (length word) text))
