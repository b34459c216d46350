-- Which bytes spell a message, and what is wrong with others. No place in the bytes is spoken of: a message is its pieces.
use Rattle.std.specs.Prelude.{◌≡◌, ℕ, ◌≤◌, ◌<◌, ◌%◌, ◌^◌, List, [], ◌∷◌, ◌++◌, ◌⊎◌, length, map, Option, Some, None, Ok, Err}
use Rattle.std.specs.Int.{w64, from_be_bytes}
use Rattle.hex.specs.Hex.{decode_sized}
use Rattle.message_elements.specs.declared.form.Class.{Class}
use Rattle.message_elements.specs.declared.form.Class.TheVariants.{Digits}
use Rattle.message_elements.specs.declared.form.Form.{Form}
use Rattle.message_elements.specs.declared.form.Form.TheVariants.{Fixed, Llvar, Lllvar, Binary}
use Rattle.message_elements.specs.declared.kind.Kind.{Kind}
use Rattle.message_elements.specs.declared.fault.DecodeFault.{DecodeFault}
use Rattle.message_elements.specs.declared.fault.DecodeFault.TheVariants as faults
use Rattle.message_elements.specs.Types.{kind_of}
use Rattle.card_digits.specs.Numbers.{decimal}
use Rattle.message_elements.specs.Values.{AreOf}
use Rattle.iso_message.specs.Elements.{field_at}
use Rattle.message_elements.specs.Table.{form_of}
use Rattle.iso_message.specs.Fields.{Fields}
use Rattle.iso_message.specs.Messages.{marks, kind_at, map_at}

-- so many digits that write the number
abbrev pub Writes : ℕ → ℕ → List ℕ → Type 0
Writes width n digits = (length digits ≡ width) × AreOf Digits digits × (decimal digits ≡ n)

-- a length field, and the value
abbrev pub IsCounted : ℕ → Class → ℕ → List ℕ → List ℕ → Type 0
IsCounted width class most value text = (digits : List ℕ) × (text ≡ digits ++ value) × Writes width (length value) digits × (length value ≤ most) × AreOf class value

-- the piece of a value in a form
abbrev pub IsPiece : Option Form → List ℕ → List ℕ → Type 0
IsPiece None value text = ⊥
IsPiece (Some (Fixed class size)) value text = (text ≡ value) × (length value ≡ size) × AreOf class value
IsPiece (Some (Llvar class most)) value text = IsCounted 2 class most value text
IsPiece (Some (Lllvar class most)) value text = IsCounted 3 class most value text
IsPiece (Some Binary) value text = decode_sized text 8 ≡ Ok value

-- one piece for each element, and nothing else
abbrev pub ArePieces : List (ℕ × List ℕ) → List ℕ → Type 0
ArePieces [] bytes = bytes ≡ []
ArePieces (e ∷ es) bytes = (text : List ℕ) × (rest : List ℕ) × (bytes ≡ text ++ rest) × IsPiece (form_of e.0) e.1 text × ArePieces es rest

-- 16 hexadecimal digits
abbrev pub IsMap : ℕ → List ℕ → Type 0
IsMap n text = (bytes : List ℕ) × (decode_sized text 8 ≡ Ok bytes) × (from_be_bytes w64 bytes ≡ n)

-- the first map, and the second where the first bit is set
abbrev pub AreMaps : ℕ → ℕ → List ℕ → Type 0
AreMaps first second text =
    ((first < 2 ^ 63) × (second ≡ 0) × IsMap first text)
    ⊎ ((2 ^ 63 ≤ first) × (one : List ℕ) × (two : List ℕ) × (text ≡ one ++ two) × IsMap first one × IsMap second two)

-- the elements that the maps announce, in ascending order
abbrev pub announced : ℕ → ℕ → List ℕ
announced first second = marks 64 64 (first % 2 ^ 63) ++ marks 128 64 second

abbrev pub IsKind : List ℕ → Kind → Type 0
IsKind text kind = (length text ≡ 4) × (kind_of text ≡ Some kind)

-- a type, maps, and a piece for each element that these announce
pub record Spells (bytes : List ℕ) (m : Fields) : Type 0 where
  pub kind : List ℕ
  pub maps : List ℕ
  pub body : List ℕ
  pub first : ℕ
  pub second : ℕ
  pub whole : bytes ≡ kind ++ (maps ++ body)
  pub is_kind : IsKind kind m.kind
  pub are_maps : AreMaps first second maps
  pub numbers : map (λ e. e.0) m.elements ≡ announced first second
  pub pieces : ArePieces m.elements body

-- what is wrong in the place of the first piece that isn't right, behind right pieces
pub data IsFault (bytes : List ℕ) (fault : DecodeFault) : Type 0 where
  AtKind : kind_at bytes ≡ Err fault → IsFault bytes fault
  AtFirst : (text rest : List ℕ) (kind : Kind) → bytes ≡ text ++ rest → IsKind text kind → map_at rest ≡ Err fault → IsFault bytes fault
  AtSecond : (text map rest : List ℕ) (kind : Kind) (first : ℕ) → bytes ≡ text ++ (map ++ rest) → IsKind text kind → IsMap first map → 2 ^ 63 ≤ first → map_at rest ≡ Err fault → IsFault bytes fault
  AtElement : (text maps body rest : List ℕ) (kind : Kind) (first second : ℕ) (es : List (ℕ × List ℕ)) (n : ℕ) (later : List ℕ) → bytes ≡ text ++ (maps ++ (body ++ rest)) → IsKind text kind
      → AreMaps first second maps → map (λ e. e.0) es ++ n ∷ later ≡ announced first second → ArePieces es body → field_at (form_of n) n rest ≡ Err fault → IsFault bytes fault
  AtEnd : (text maps body rest : List ℕ) (kind : Kind) (first second : ℕ) (es : List (ℕ × List ℕ)) → bytes ≡ text ++ (maps ++ (body ++ rest)) → IsKind text kind
      → AreMaps first second maps → map (λ e. e.0) es ≡ announced first second → ArePieces es body → (rest ≡ [] → ⊥) → fault ≡ faults.Trailing → IsFault bytes fault
