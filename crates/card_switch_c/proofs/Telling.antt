-- What is told of how a job ended.
use Rattle.std.proofs.Common.{◌≡◌, ℕ, ◌<◌, ◌≤◌, List, length, Result, Ok, Err, refl, arith}
use Rattle.std.specs.Prelude.{IfOk, OnErr}
use Rattle.bundle_text.specs.Answers.{Said, status_code}
use Rattle.bundle_text.specs.declared.answer.Status.{Status}
use Rattle.bundle_text.specs.declared.answer.Status.TheVariants.{Done, Refused, Fault}
use Rattle.buffer_jobs.specs.declared.filled.Filled.{Filled}
use Rattle.buffer_jobs.specs.declared.filled.FillFault.{FillFault}
use Rattle.buffer_jobs.specs.declared.filled.FillFault.TheVariants.{TooSmall, Memory}
use Rattle.buffer_jobs.specs.Buffer.{Fills, IsTooSmall}
use Rattle.card_switch_c.specs.Exports.{Leaves, told_length, told_status}

below_three : (s : Status) → status_code s < 3
below_three Done = omega arith
below_three Refused = omega arith
below_three Fault = omega arith

leaves_of : (IsOne : Said → Type 0) (old new : List ℕ) (ended : Result Filled FillFault) → IfOk ended (Fills IsOne old new) → OnErr ended (new ≡ old) → ((wanted : ℕ) → ended ≡ Err (TooSmall wanted) → IsTooSmall IsOne (length old) wanted) → Leaves IsOne old new (told_length ended) (told_status ended)
leaves_of IsOne old new (Ok filled) ok err small = record {
  text = λ h. (ok.0, ok.1, ok.2, ok.3, rw ok.4 refl);
  small = λ h. absurd (omega (arith, below_three filled.status));
  memory = λ h. absurd (omega (arith, below_three filled.status));
  known = omega (arith, below_three filled.status);
}
leaves_of IsOne old new (Err (TooSmall wanted)) ok err small = record {
  text = λ h. absurd (omega arith);
  small = λ h. (err, small wanted refl);
  memory = λ h. absurd (omega arith);
  known = omega arith;
}
leaves_of IsOne old new (Err Memory) ok err small = record {
  text = λ h. absurd (omega arith);
  small = λ h. absurd (omega arith);
  memory = λ h. (err, refl);
  known = omega arith;
}

pub leaves : (IsOne : Said → Type 0) (old new : List ℕ) (told status : ℕ) (ended : Result Filled FillFault) → IfOk ended (Fills IsOne old new) → OnErr ended (new ≡ old) → ((wanted : ℕ) → ended ≡ Err (TooSmall wanted) → IsTooSmall IsOne (length old) wanted) → told ≡ told_length ended → status ≡ told_status ended → Leaves IsOne old new told status
leaves IsOne old new told status ended ok err small is_told is_status = rw (is_told, is_status) (leaves_of IsOne old new ended ok err small)
