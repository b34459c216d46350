use Rattle.std.proofs.Common.{◌≡◌, ◌+◌, ◌<◌, ◌≤◌, ◌++◌, [], length, take, get_or, sym, ap, ◌∙◌, arith}
use Rattle.std.proofs.lemmas.List.{take_all}
use Rattle.message_text.specs.declared.row.TheConstants.{LABELS}
use Rattle.message_text.specs.Labels.{label_len}
use Rattle.message_text.proofs.LabelTable.{label_is, len_is, four_bytes, fits}
use Rattle.message_text.proofs.RowLemmas.{less_written}
use Rattle.message_text.proofs.row.put_label.Goals as goal

pub returns-clause-text : goal.returns-clause-text
returns-clause-text c =
    let n = c.args.number in
    let within : n < 129 = omega (arith, c.requires.number) in
    let at = c.args.at in
    let new = c.put-behind.new.row in
    let label = get_or LABELS n [] in
    let long : length label ≡ 4 = four_bytes n [] within in
    let all : take 4 label ≡ label = take_all 4 label (omega (arith, long)) in
    let end : c.put-behind.result ≡ at + 4 = omega (arith, c.put-behind.ensures.end, long) in
    let written : take (at + 4) new ≡ take at c.args.row.now ++ take 4 label = ap (λ k. take k new) (sym end) ∙ c.put-behind.ensures.text ∙ ap (λ z. take at c.args.row.now ++ z) (sym all) in
    let few : label_len n ≤ 4 = fits n in
    ap (λ k. take (at + k) new) (len_is n within)
    ∙ less_written c.args.row.now new label at 4 (label_len n) written few (omega (arith, c.requires.room))
    ∙ ap (λ z. take at c.args.row.now ++ z) (label_is n [] within)

pub returns-clause-end : goal.returns-clause-end
returns-clause-end c =
    let within : c.args.number < 129 = omega (arith, c.requires.number) in
    omega (arith, len_is c.args.number within, fits c.args.number)

pub slice_bounds-put-end : goal.slice_bounds-put-end
slice_bounds-put-end c =
    let within : c.args.number < 129 = omega (arith, c.requires.number) in
    omega (arith, four_bytes c.args.number [] within, c.requires.room)

pub put-behind-requires : goal.put-behind-requires
put-behind-requires c =
    let within : c.args.number < 129 = omega (arith, c.requires.number) in
    omega (arith, four_bytes c.args.number [] within, c.requires.room)
