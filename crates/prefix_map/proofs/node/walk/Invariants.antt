use Rattle.std.proofs.Common.{◌-◌, length}
use Rattle.prefix_map.specs.Walk.{pairs, next}
use Rattle.prefix_map.proofs.Walks.{IsOnTheWay}
use Rattle.prefix_map.proofs.node.walk.Given as goal

abbrev pub invariant-loop-digits : goal.invariant-loop-digits
invariant-loop-digits g l = IsOnTheWay (pairs l.nodes) (next l.nodes) l.prefix l.step l.at

abbrev pub decreases-loop-digits : goal.decreases-loop-digits
decreases-loop-digits g l = length l.nodes - l.at
