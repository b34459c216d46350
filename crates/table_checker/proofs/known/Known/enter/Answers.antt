use Rattle.table_checker.proofs.Codes.{none_falling}
use Rattle.table_checker.proofs.known.Known.enter.Goals.{then-ne, else-ne}
use Rattle.table_checker.proofs.known.Known.enter.Goals as goal

pub returns-clause-falling : goal.returns-clause-falling
returns-clause-falling c = elim c.if-ne.branch [
  | then-ne w ↦ λ t before n place r h at. absurd (none_falling 64 n place (rw w.self-is at h))
  | else-ne w ↦ λ t before. rw w.self-is before
]
