use Rattle.std.proofs.Common.{◌≡◌, drop}
use Rattle.rank_rows.specs.Runs.{rank_in_run}
use Rattle.rank_rows.proofs.runs.rank_in_run.Given as goal

abbrev pub invariant-loop-row : goal.invariant-loop-row
invariant-loop-row l = rank_in_run (drop l.row-index l.rows) l.node l.prefix ≡ rank_in_run l.rows l.node l.prefix
