use Rattle.std.proofs.Common.{length}
use Rattle.bundle_text.proofs.Parting.{IsOn}
use Rattle.bundle_text.proofs.input_parts.first_part.Given as goal

abbrev pub invariant-loop-tail : goal.invariant-loop-tail
invariant-loop-tail l = IsOn l.fn.text l.rest

abbrev pub decreases-loop-tail : goal.decreases-loop-tail
decreases-loop-tail l = length l.rest
