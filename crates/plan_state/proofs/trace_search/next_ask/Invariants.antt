use Rattle.std.proofs.Common.{◌≡◌}
use Rattle.plan_state.specs.Found.{asks_from}
use Rattle.plan_state.proofs.trace_search.next_ask.Given as goal

abbrev pub invariant-loop-k : goal.invariant-loop-k
invariant-loop-k l = (l.cursor.entry ≡ l.k) × (asks_from l.trace l.cursor ≡ asks_from l.trace l.fn.cursor)
