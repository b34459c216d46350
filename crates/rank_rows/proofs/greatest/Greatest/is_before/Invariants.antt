use Rattle.std.proofs.Common.{◌≡◌, drop}
use Rattle.rank_rows.specs.Greatest.{greatest_from, greatest_of}
use Rattle.rank_rows.proofs.greatest.Greatest.is_before.Given as goal

abbrev pub invariant-loop-row : goal.invariant-loop-row
invariant-loop-row l = greatest_from l.name (drop l.row-index (drop l.fn.self.rows l.run)) ≡ greatest_of l.run
