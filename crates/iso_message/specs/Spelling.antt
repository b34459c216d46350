-- The canonical spelling of a message.
use Rattle.std.specs.Prelude.{◌≡◌, ℕ, ◌+◌, ◌-◌, ◌/◌, ◌%◌, ◌^◌, ◌<◌, ◌≤◌, ◌==◌, nat_lt, nat_le, Bool, true, false, List, [], ◌∷◌, ◌++◌, length, map, Option, Some, None, if◌then◌else◌}
use Rattle.std.specs.List.{filter, flat_map}
use Rattle.std.specs.Int.{w64, to_be_bytes}
use Rattle.hex.specs.Hex.{encode_upper, IsBytes}
use Rattle.message_elements.specs.declared.form.Form.{Form}
use Rattle.message_elements.specs.declared.form.Form.TheVariants.{Fixed, Llvar, Lllvar, Binary}
use Rattle.message_elements.specs.Types.{kind_text}
use Rattle.message_elements.specs.Table.{form_of}
use Rattle.iso_message.specs.Fields.{Fields}
use Rattle.message_elements.specs.Values.{AreOf}

abbrev pub two_digits : ℕ → List ℕ
two_digits n = (48 + n / 10) ∷ (48 + n % 10) ∷ []

abbrev pub three_digits : ℕ → List ℕ
three_digits n = (48 + n / 100) ∷ (48 + n / 10 % 10) ∷ (48 + n % 10) ∷ []

abbrev pub piece : Option Form → List ℕ → List ℕ
piece None value = []
piece (Some (Fixed class size)) value = value
piece (Some (Llvar class most)) value = two_digits (length value) ++ value
piece (Some (Lllvar class most)) value = three_digits (length value) ++ value
piece (Some Binary) value = encode_upper value

-- the digits of a value's length, where the form has some
abbrev pub length_text : Option Form → ℕ → List ℕ
length_text (Some (Llvar class most)) n = two_digits n
length_text (Some (Lllvar class most)) n = three_digits n
length_text _ n = []

-- the form has as many digits as the length
abbrev pub HasLength : Option Form → ℕ → Type 0
HasLength (Some (Llvar class most)) n = n < 100
HasLength (Some (Lllvar class most)) n = n < 1000
HasLength _ n = Unit {0}

abbrev pub is_binary : Option Form → Bool
is_binary (Some Binary) = true
is_binary _ = false

-- the map with these numbers' bits, of which the lowest is that of last
abbrev pub bits : ℕ → List ℕ → ℕ
bits last [] = 0
bits last (n ∷ ns) = 2 ^ (last - n) + bits last ns

abbrev pub map_text : ℕ → List ℕ
map_text n = encode_upper (to_be_bytes w64 n)

-- the same, of the two maps' bits
abbrev pub two_maps : ℕ → ℕ → List ℕ
two_maps low high = if high == 0 then map_text low else map_text (2 ^ 63 + low) ++ map_text high

-- the second map only where a number is above 64
abbrev pub maps_text : List ℕ → List ℕ → List ℕ
maps_text low [] = map_text (bits 64 low)
maps_text low (n ∷ high) = map_text (2 ^ 63 + bits 64 low) ++ map_text (bits 128 (n ∷ high))

abbrev pub low_numbers : List ℕ → List ℕ
low_numbers ns = filter (λ n. nat_le n 64) ns

abbrev pub high_numbers : List ℕ → List ℕ
high_numbers ns = filter (λ n. nat_lt 64 n) ns

abbrev pub numbers_of : Fields → List ℕ
numbers_of m = map (λ e. e.0) m.elements

abbrev pub pieces : List (ℕ × List ℕ) → List ℕ
pieces es = flat_map (λ e. piece (form_of e.0) e.1) es

unfoldable pub spelling : Fields → List ℕ
spelling m = kind_text m.kind ++ (maps_text (low_numbers (numbers_of m)) (high_numbers (numbers_of m)) ++ pieces m.elements)

-- in ascending order, above low and up to high
abbrev pub Ascends : ℕ → ℕ → List ℕ → Type 0
Ascends low high [] = Unit {0}
Ascends low high (n ∷ ns) = (low < n) × (n ≤ high) × Ascends n high ns

abbrev pub IsGood : Option Form → List ℕ → Type 0
IsGood None value = ⊥
IsGood (Some (Fixed class size)) value = (length value ≡ size) × AreOf class value
IsGood (Some (Llvar class most)) value = (length value ≤ most) × (length value < 100) × AreOf class value
IsGood (Some (Lllvar class most)) value = (length value ≤ most) × (length value < 1000) × AreOf class value
IsGood (Some Binary) value = (length value ≡ 8) × IsBytes value

abbrev pub AreGood : List (ℕ × List ℕ) → Type 0
AreGood [] = Unit {0}
AreGood (e ∷ es) = IsGood (form_of e.0) e.1 × AreGood es

pub record IsMessage (m : Fields) : Type 0 where
  pub order : Ascends 1 128 (numbers_of m)
  pub values : AreGood m.elements
