-- What an input is read from, and what is written in its place.
use Rattle.std.specs.Prelude.{◌≡◌, ℕ, ◌<◌, ◌≤◌, ◌⊎◌, List, length, codes, Option, IfSome}
use Rattle.card_digits.specs.Stream.{TookTurns, one_more}
use Rattle.card_digits.specs.declared.stream.Source.{Ghosts}
use Rattle.bundle_text.specs.declared.answer.Status.{Status}
use Rattle.bundle_text.specs.Answers.{Said, fault, Wrote, status_code}
use Rattle.bundle_input.specs.declared.input.InputFault.{InputFault}
use Rattle.bundle_input.specs.declared.input.InputFault.TheVariants as cause

-- the causes of these faults alone, for a reader as it was and as it is: an input that is too long; one more call that failed than
-- before, or 33,554,432 calls
abbrev pub WasCause : {R : Type 0} → Ghosts R → R → R → InputFault → Type 0
WasCause source old new cause.TooLong = IfSome (source.remaining old) (λ input. 16_777_216 < length input)
WasCause source old new cause.Read = (source.failures new ≡ one_more (source.failures old)) ⊎ TookTurns 33_554_432 (source.turns old) (source.turns new)
WasCause source old new cause.Memory = Unit {0}

-- what is written where there is no input
abbrev pub input_fault : InputFault → Said
input_fault cause.TooLong = fault (codes "fault bundle 2 too long\n")
input_fault cause.Read = fault (codes "fault bundle 3 read\n")
input_fault cause.Memory = fault (codes "fault bundle 4 memory\n")

-- what is written for what a reader gives: an answer to its bytes, the cause for which there is no input, or that memory was refused
pub data IsOutput {R : Type 0} (source : Ghosts R) (old new : R) (IsAnswer : List ℕ → Said → Type 0) (said : Said) : Type 0 where
  IsOfInput : IfSome (source.remaining old) (λ input. (length input ≤ 16_777_216) × IsAnswer input said) → IsOutput source old new IsAnswer said
  IsCause : (cause : InputFault) → WasCause source old new cause → said ≡ input_fault cause → IsOutput source old new IsAnswer said

-- an answer to an input, or that memory was refused
abbrev pub AnswersOrMemory : (List ℕ → Said → Type 0) → List ℕ → Said → Type 0
AnswersOrMemory IsAnswer input said = IsAnswer input said ⊎ (said ≡ input_fault cause.Memory)

-- one output was written, and this is the number of its status
abbrev pub WroteWithCode : (Said → Type 0) → Option (List ℕ) → Option (List ℕ) → ℕ → Type 0
WroteWithCode IsOne old new code = (status : Status) × Wrote IsOne old new status × (code ≡ status_code status)
