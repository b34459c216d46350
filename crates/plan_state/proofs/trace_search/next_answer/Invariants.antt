use Rattle.std.proofs.Common.{◌≡◌}
use Rattle.plan_state.specs.Found.{answers_from}
use Rattle.plan_state.proofs.trace_search.next_answer.Given as goal

abbrev pub invariant-loop-k : goal.invariant-loop-k
invariant-loop-k l = (l.cursor.entry ≡ l.k) × (answers_from l.wanted l.trace l.cursor ≡ answers_from l.wanted l.trace l.fn.cursor)
