use Rattle.std.proofs.Common.{sym, ◌∙◌}
use Rattle.card_digits.proofs.LineCuts.{first_of-cut, first_of-last, not_empty}
use Rattle.card_digits.proofs.lines.first_line.Goals as goal

pub returns-in-Some-clause-line : goal.returns-in-Some-clause-line
returns-in-Some-clause-line c = first_of-cut _ _ _ c.in-Some.ensures

pub returns-in-None-clause-line : goal.returns-in-None-clause-line
returns-in-None-clause-line c = first_of-last _ (not_empty _ (sym c.is_empty.ensures ∙ c.if-is_empty.false)) c.in-None.ensures
