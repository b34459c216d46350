-- What is known of bytes that are still to be read.
use Rattle.std.specs.Prelude.{◌≡◌, ℕ, ◌-◌, ◌+◌, ◌≤◌, ◌<◌, true, List, length, take, Bool, slice_index, ◌==◌, if◌then◌else◌}
use Rattle.std.specs.Int.{w64, trailing_zeros}
use Rattle.message_elements.specs.declared.form.Class.TheVariants.{Digits, Text}
use Rattle.message_bytes.specs.declared.runs.Known.{Known}
use Rattle.message_elements.specs.Values.{AreOf}

-- each byte from a place up to an end passes the test
abbrev pub PassBetween : (ℕ → Bool) → List ℕ → ℕ → ℕ → Type 0
PassBetween test bytes from end = (k : ℕ) → from ≤ k → k < end → test (slice_index bytes k) ≡ true

-- so many of the lanes from a place pass the test
abbrev pub PassIn : (ℕ → Bool) → List ℕ → ℕ → ℕ → ℕ → Type 0
PassIn test bytes at lanes run = (run ≤ lanes) × PassBetween test bytes at (at + run)

-- all bytes but so many of the last are of the class
pub record IsKnown (known : Known) (bytes : List ℕ) : Type 0 where
  pub digits : AreOf Digits (take (length bytes - known.digits) bytes)
  pub text : AreOf Text (take (length bytes - known.text) bytes)

-- the place of the lowest bit that is set, or sixteen
abbrev pub lanes_before : ℕ → ℕ
lanes_before stops = if stops == 0 then 16 else trailing_zeros w64 stops
