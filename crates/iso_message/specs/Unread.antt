-- A message of which some elements were read.
use Rattle.std.specs.Prelude.{ℕ, ◌==◌, List, length, Result, Ok, Err, if◌then◌else◌}
use Rattle.message_elements.specs.declared.kind.Kind.{Kind}
use Rattle.message_elements.specs.declared.fault.DecodeFault.{DecodeFault}
use Rattle.message_elements.specs.declared.fault.DecodeFault.TheVariants as faults
use Rattle.card_digits.specs.Attempts.{◌>>=◌}
use Rattle.iso_message.specs.Elements.{with_all}
use Rattle.iso_message.specs.Fields.{Fields}

-- the numbers of the elements that are still to be read, and the bytes that follow
pub record Left : Type 0 where
  pub numbers : List ℕ
  pub bytes : List ℕ

-- a message of these elements and those that are left
unfoldable pub read_on : Kind → List (ℕ × List ℕ) → Left → Result Fields DecodeFault
read_on kind es left = do
  x ← with_all es left.numbers left.bytes
  if length x.1 == 0 then Ok (record { kind = kind; elements = x.0 }) else Err faults.Trailing
