-- What a job leaves in a buffer.
use Rattle.std.specs.Prelude.{◌≡◌, ℕ, ◌<◌, ◌≤◌, ◌⊎◌, List, length}
use Rattle.buffer_front.specs.Fronts.{with_front}
use Rattle.bundle_text.specs.Answers.{Said, Answers, check_said}
use Rattle.bundle_input.specs.declared.input.InputFault.TheVariants.{TooLong}
use Rattle.bundle_input.specs.Input.{input_fault}
use Rattle.replay_text.specs.Answers.{ReplayAnswers, replay_said}
use Rattle.buffer_jobs.specs.declared.filled.Filled.{Filled}

-- one such text was put at the front of a buffer, and these are its length and its status
abbrev pub Fills : (Said → Type 0) → List ℕ → List ℕ → Filled → Type 0
Fills IsOne old new filled = (said : Said) × IsOne said × (new ≡ with_front said.text old) × (filled.len ≡ length said.text) × (filled.status ≡ said.status)

-- a buffer of so many bytes is too small for one such text, which has so many
abbrev pub IsTooSmall : (Said → Type 0) → ℕ → ℕ → Type 0
IsTooSmall IsOne size wanted = (said : Said) × IsOne said × (size < length said.text) × (wanted ≡ length said.text)

-- what the program prints for an input, by what a job answers: the answer, or the line of an input that is too long
abbrev pub IsPrinted : (List ℕ → Said → Type 0) → List ℕ → Said → Type 0
IsPrinted IsAnswer input said = ((length input ≤ 16_777_216) × IsAnswer input said) ⊎ ((16_777_216 < length input) × (said ≡ input_fault TooLong))

-- the answer of `check` to an input, and that of `replay`
abbrev pub CheckAnswers : List ℕ → Said → Type 0
CheckAnswers input said = Answers said (check_said input)

abbrev pub ReplayedAnswers : List ℕ → Said → Type 0
ReplayedAnswers input said = ReplayAnswers said (replay_said input)
