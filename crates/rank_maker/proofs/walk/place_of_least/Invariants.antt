use Rattle.std.proofs.Common.{◌≤◌}
use Rattle.rank_maker.proofs.walk.place_of_least.Given as goal

abbrev pub invariant-loop-i : goal.invariant-loop-i
invariant-loop-i l = l.least ≤ l.i
