use Rattle.std.proofs.Common.{◌≡◌, drop}
use Rattle.crowded_map.specs.Counts.{poured}
use Rattle.crowded_map.proofs.crowds.pour.Given as goal

abbrev pub invariant-loop-i : goal.invariant-loop-i
invariant-loop-i l = poured l.i (drop l.i l.finer) l.counts ≡ poured 0 l.finer l.fn.counts
