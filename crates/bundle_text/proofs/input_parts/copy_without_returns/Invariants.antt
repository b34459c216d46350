use Rattle.std.proofs.Common.{length}
use Rattle.bundle_text.proofs.Trimming.{IsSoFar}
use Rattle.bundle_text.proofs.input_parts.copy_without_returns.Given as goal

abbrev pub invariant-loop-line : goal.invariant-loop-line
invariant-loop-line l = IsSoFar l.text.items l.rest l.fn.input

abbrev pub decreases-loop-line : goal.decreases-loop-line
decreases-loop-line l = length l.rest
