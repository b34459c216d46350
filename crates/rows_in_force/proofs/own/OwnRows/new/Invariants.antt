use Rattle.std.proofs.Common.{◌≤◌, ◌-◌, length}
use Rattle.rows_in_force.specs.Own.{IsChainedTo}
use Rattle.rows_in_force.proofs.own.OwnRows.new.Given as goal

abbrev pub invariant-loop-place : goal.invariant-loop-place
invariant-loop-place g l = record {
  chained : IsChainedTo g.R.Placed.prefix_of l.place l.rows l.last.entries l.before.items;
  within : l.place ≤ length l.rows;
}

abbrev pub decreases-loop-place : goal.decreases-loop-place
decreases-loop-place g l = length l.rows - l.place
