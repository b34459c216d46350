use Rattle.std.proofs.Common.{ℕ, ◌+◌, ◌<◌, get_or}
use Rattle.rank_maker.specs.Circle.{GoesOn}
use Rattle.rank_maker.proofs.circle.is_circle.Given as goal

abbrev pub invariant-loop-i : goal.invariant-loop-i
invariant-loop-i l = (k : ℕ) → k + 1 < l.i → GoesOn l.tables l.class (get_or l.nodes k 0) (get_or l.nodes (k + 1) 0)
