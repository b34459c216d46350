-- Whose work another thread does.
use Rattle.std.specs.Prelude.{ℕ, Bool, nat_lt, nat_le, ◌||◌}
use Rattle.turn_clock.specs.declared.clock.Helped.{Helped}

-- whether the thread of a number is one of them: it is below the one number, or not below the other
abbrev pub is_helped : Helped → ℕ → Bool
is_helped h thread = nat_lt thread h.below || nat_le h.from thread
