use Rattle.std.proofs.Common.{◌-◌, ◌++◌, length, take, drop, ap, ◌∙◌}
use Rattle.card_digits.specs.Digits.{digits_text}
use Rattle.rank_cert.proofs.Lines.{spelled_parts}
use Rattle.rank_cert.proofs.page.put_first_digits.Goals as goal

pub returns-in-Some-clause-text : goal.returns-in-Some-clause-text
returns-in-Some-clause-text g c =
    let digits = c.args.digits.now in
    ap (λ bytes. bytes ++ digits_text (take (length digits - g.row.N) (drop g.row.N digits))) c.put.ensures.text
    ∙ spelled_parts (take c.args.at c.args.page.now) c.spelled.result digits g.row.N (c.spelled.ensures ∙ ap digits_text c.in-Some.ensures.cases.same)
