-- The forms of elements, and what stands in an element's place.
use Rattle.std.specs.Prelude.{ℕ, ◌&&◌, nat_lt, nat_le, List, [], ◌∷◌, ◌++◌, length, take, drop, Option, Some, None, Result, Ok, Err, if◌then◌else◌}
use Rattle.std.specs.List.{list_all}
use Rattle.hex.specs.Hex.{decode_sized}
use Rattle.hex.specs.declared.error.FromHexError.{FromHexError}
use Rattle.card_digits.specs.Attempts.{◌>>=◌}
use Rattle.card_digits.specs.Numbers.{decimal}
use Rattle.message_elements.specs.Table.{form_of}
use Rattle.message_elements.specs.Values.{fits}
use Rattle.message_elements.specs.declared.form.Class.{Class}
use Rattle.message_elements.specs.declared.form.Class.TheVariants.{Digits}
use Rattle.message_elements.specs.declared.form.Form.{Form}
use Rattle.message_elements.specs.declared.form.Form.TheVariants.{Fixed, Llvar, Lllvar, Binary}
use Rattle.message_elements.specs.declared.fault.DecodeFault.{DecodeFault}
use Rattle.message_elements.specs.declared.fault.DecodeFault.TheVariants as faults

-- a content of so many bytes, and the bytes after it
unfoldable pub content_at : Class → ℕ → ℕ → List ℕ → Result (List ℕ × List ℕ) DecodeFault
content_at class size n bytes =
    if nat_lt (length bytes) size then Err faults.Short
    else if list_all (fits class) (take size bytes) then Ok (take size bytes, drop size bytes)
    else Err (faults.Character n)

-- a length of so many digits
unfoldable pub length_at : ℕ → ℕ → ℕ → List ℕ → Result (ℕ × List ℕ) DecodeFault
length_at width most n bytes =
    if nat_lt (length bytes) width then Err faults.Short
    else if list_all (fits Digits) (take width bytes) && nat_le (decimal (take width bytes)) most then Ok (decimal (take width bytes), drop width bytes)
    else Err (faults.Length n)

abbrev pub unpacked : ℕ → List ℕ → Result (List ℕ) FromHexError → Result (List ℕ × List ℕ) DecodeFault
unpacked n rest (Ok value) = Ok (value, rest)
unpacked n rest (Err e) = Err (faults.Character n)

unfoldable pub binary_at : ℕ → List ℕ → Result (List ℕ × List ℕ) DecodeFault
binary_at n bytes =
    if nat_lt (length bytes) 16 then Err faults.Short
    else unpacked n (drop 16 bytes) (decode_sized (take 16 bytes) 8)

unfoldable pub counted_at : ℕ → Class → ℕ → ℕ → List ℕ → Result (List ℕ × List ℕ) DecodeFault
counted_at width class most n bytes = do
  len ← length_at width most n bytes
  content_at class len.0 n len.1

-- by the form
abbrev pub field_at : Option Form → ℕ → List ℕ → Result (List ℕ × List ℕ) DecodeFault
field_at None n bytes = Err (faults.Element n)
field_at (Some (Fixed class size)) n bytes = content_at class size n bytes
field_at (Some (Llvar class most)) n bytes = counted_at 2 class most n bytes
field_at (Some (Lllvar class most)) n bytes = counted_at 3 class most n bytes
field_at (Some Binary) n bytes = binary_at n bytes

-- the element of a number, by its form
abbrev pub element_at : ℕ → List ℕ → Result (List ℕ × List ℕ) DecodeFault
element_at n bytes = field_at (form_of n) n bytes

-- the elements so far with the next, and the bytes after it
unfoldable pub with_next : List (ℕ × List ℕ) → Option Form → ℕ → List ℕ → Result (List (ℕ × List ℕ) × List ℕ) DecodeFault
with_next es form n bytes = do
  x ← field_at form n bytes
  Ok (es ++ (n, x.0) ∷ [], x.1)

-- the elements so far with those of these numbers, and the bytes after them
unfoldable pub with_all : List (ℕ × List ℕ) → List ℕ → List ℕ → Result (List (ℕ × List ℕ) × List ℕ) DecodeFault
with_all es [] bytes = Ok (es, bytes)
with_all es (n ∷ ns) bytes = do
  x ← with_next es (form_of n) n bytes
  with_all x.0 ns x.1
