use Rattle.std.proofs.Common.{◌≡◌, ◌++◌, drop}
use Rattle.step_draft.proofs.outputs.all_shared.Given as goal

abbrev pub invariant-loop-output : goal.invariant-loop-output
invariant-loop-output l = l.again.items ++ drop l.output-index l.outputs ≡ l.outputs
