use Rattle.std.proofs.Common.{◌≡◌, ℕ, ◌<◌, ◌≤◌, Some, slice_get}
use Rattle.rows_in_force.proofs.own.run_end.Given as goal

abbrev pub invariant-loop-end : goal.invariant-loop-end
invariant-loop-end g l = record {
  prefix_is : (r : _) → slice_get l.rows l.place ≡ Some r → l.prefix ≡ g.R.Placed.prefix_of r;
  same : (k : ℕ) (r s : _) → l.place ≤ k → k < l.end → slice_get l.rows l.place ≡ Some r → slice_get l.rows k ≡ Some s → g.R.Placed.prefix_of s ≡ g.R.Placed.prefix_of r;
}
