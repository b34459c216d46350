use Rattle.std.proofs.Common.{◌≡◌, length}
use Rattle.crowded_map.proofs.map.counts_of.Given as goal

abbrev pub invariant-loop-key : goal.invariant-loop-key
invariant-loop-key g l = length l.counts.items ≡ l.stretches
