use Rattle.std.proofs.Common.{◌≡◌, ℕ, ◌<◌, ◌-◌, ◌/◌, length, bit_and}
use Rattle.crowded_map.specs.Counts.{count_at}
use Rattle.crowded_map.proofs.crowds.halve.Given as goal

abbrev pub invariant-loop-i : goal.invariant-loop-i
invariant-loop-i l = (j : ℕ) → j < l.i → count_at l.halves j ≡ count_at l.whole (bit_and j (length l.whole - 1)) / 2
