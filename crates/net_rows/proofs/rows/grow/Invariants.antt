use Rattle.std.proofs.Common.{◌≡◌, ◌+◌, ℕ, length}
use Rattle.std.specs.Prelude.{Option}
use Rattle.net_rows.specs.Index.{places_at}
use Rattle.net_rows.proofs.rows.grow.Given as goal

abbrev pub invariant-loop : goal.invariant-loop
invariant-loop l = ((node : Option ℕ) → places_at l.tries.items node ≡ places_at l.fn.tries.items node) × (length l.tries.items ≡ length l.fn.tries.items + l.counter)
