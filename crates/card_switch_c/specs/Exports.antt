-- What an exported function leaves.
use Rattle.std.specs.Prelude.{◌≡◌, ℕ, ◌<◌, ◌≤◌, List, length, Result, Ok, Err}
use Rattle.bundle_text.specs.Answers.{Said, status_code}
use Rattle.buffer_jobs.specs.declared.filled.Filled.{Filled}
use Rattle.buffer_jobs.specs.declared.filled.FillFault.{FillFault}
use Rattle.buffer_jobs.specs.declared.filled.FillFault.TheVariants.{TooSmall, Memory}
use Rattle.buffer_front.specs.Fronts.{with_front}
use Rattle.buffer_jobs.specs.Buffer.{IsTooSmall}

-- the length that is told, and the status that is returned, where a job ended so
abbrev pub told_length : Result Filled FillFault → ℕ
told_length (Ok filled) = filled.len
told_length (Err (TooSmall wanted)) = wanted
told_length (Err Memory) = 0

abbrev pub told_status : Result Filled FillFault → ℕ
told_status (Ok filled) = status_code filled.status
told_status (Err (TooSmall wanted)) = 3
told_status (Err Memory) = 4

-- one such text was put at the front of the buffer, with nothing else changed, and these are its length and its status
abbrev pub GivesText : (Said → Type 0) → List ℕ → List ℕ → ℕ → ℕ → Type 0
GivesText IsOne old new told status = (said : Said) × IsOne said × (new ≡ with_front said.text old) × (told ≡ length said.text) × (status ≡ status_code said.status)

-- what a job leaves that makes one such text, by its status
pub record Leaves (IsOne : Said → Type 0) (old new : List ℕ) (told status : ℕ) : Type 0 where
  pub text : status < 3 → GivesText IsOne old new told status
  pub small : status ≡ 3 → (new ≡ old) × IsTooSmall IsOne (length old) told
  pub memory : status ≡ 4 → (new ≡ old) × (told ≡ 0)
  pub known : status ≤ 4
