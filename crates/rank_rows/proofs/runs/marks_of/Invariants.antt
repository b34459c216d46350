use Rattle.std.proofs.Common.{take}
use Rattle.rank_rows.specs.Marks.{AreMarked}
use Rattle.rank_rows.proofs.runs.marks_of.Given as goal

abbrev pub invariant-loop-row : goal.invariant-loop-row
invariant-loop-row l = AreMarked l.marks (take l.row-index l.rows)
