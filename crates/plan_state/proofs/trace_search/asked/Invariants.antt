use Rattle.std.proofs.Common.{◌≡◌, drop, filter_map}
use Rattle.plan_state.specs.Found.{ask_of}
use Rattle.plan_state.proofs.trace_search.asked.Given as goal

abbrev pub invariant-loop-place : goal.invariant-loop-place
invariant-loop-place l = filter_map ask_of (drop l.from l.outputs) ≡ filter_map ask_of (drop l.place l.outputs)
