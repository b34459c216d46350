-- Outputs of inputs that were read.
use Rattle.std.proofs.Common.{◌≡◌, ℕ, ◌≤◌, List, length, Option, Some, None, subst, inl, inr}
use Rattle.std.specs.Prelude.{IfSome}
use Rattle.card_digits.specs.declared.stream.Source.{Ghosts}
use Rattle.bundle_text.specs.Answers.{Said}
use Rattle.bundle_input.specs.declared.input.InputFault.TheVariants as cause
use Rattle.bundle_input.specs.Input.{IsOutput, IsOfInput, IsCause, AnswersOrMemory}

-- known bytes that were read are the input
of_input : (IsAnswer : List ℕ → Said → Type 0) (remaining : Option (List ℕ)) (input : List ℕ) (said : Said) → IfSome remaining (λ x. input ≡ x) → length input ≤ 16_777_216 → IsAnswer input said → IfSome remaining (λ x. (length x ≤ 16_777_216) × IsAnswer x said)
of_input IsAnswer None input said is few a = tt
of_input IsAnswer (Some x) input said is few a = subst (λ z. (length z ≤ 16_777_216) × IsAnswer z said) is (few, a)

pub output_of : {R : Type 0} (source : Ghosts R) (old new : R) (IsAnswer : List ℕ → Said → Type 0) (input : List ℕ) → IfSome (source.remaining old) (λ x. input ≡ x) → length input ≤ 16_777_216 → (said : Said) → AnswersOrMemory IsAnswer input said → IsOutput source old new IsAnswer said
output_of source old new IsAnswer input is few said (inl a) = IsOfInput (of_input IsAnswer (source.remaining old) input said is few a)
output_of source old new IsAnswer input is few said (inr m) = IsCause cause.Memory tt m
