use Rattle.std.proofs.Common.{◌≡◌, ◌++◌, List, ℕ, Bor, length, map}
use Rattle.bundle_text.specs.Parts.{parts_of_text}
use Rattle.bundle_text.proofs.input_parts.parts.Given as goal

abbrev pub invariant-loop-part : goal.invariant-loop-part
invariant-loop-part l = map (λ (p : Bor (List ℕ)). p.now) l.parts.items ++ parts_of_text l.rest ≡ parts_of_text l.fn.text

abbrev pub decreases-loop-part : goal.decreases-loop-part
decreases-loop-part l = length l.rest
