use Rattle.std.proofs.Common.{◌≡◌, drop, filter_map}
use Rattle.plan_state.specs.Wanted.{answer_to}
use Rattle.plan_state.proofs.trace_search.answered.Given as goal

abbrev pub invariant-loop-place : goal.invariant-loop-place
invariant-loop-place l = filter_map (answer_to l.wanted) (drop l.from l.outputs) ≡ filter_map (answer_to l.wanted) (drop l.place l.outputs)
