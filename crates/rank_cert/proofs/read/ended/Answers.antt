use Rattle.std.proofs.Common.{sym, ◌∙◌}
use Rattle.rank_cert.proofs.Behind.{ended_with}
use Rattle.rank_cert.proofs.read.ended.Goals as goal

pub returns-else-is_empty : goal.returns-else-is_empty
returns-else-is_empty c = sym (ended_with _ _ (sym c.is_empty.ensures ∙ c.if-is_empty.false))
