-- A message of values that stand in some bytes.
use Rattle.std.specs.Prelude.{◌≡◌, ℕ, ◌<◌, ◌⊎◌, List, [], ◌∷◌, ◌++◌, length, Option, Some, Err}
use Rattle.hex.specs.Hex.{decode_sized}
use Rattle.hex.specs.declared.error.FromHexError.{FromHexError}
use Rattle.message_elements.specs.declared.form.Form.{Form}
use Rattle.message_elements.specs.declared.form.Form.TheVariants.{Binary}
use Rattle.message_elements.specs.declared.kind.Kind.{Kind}
use Rattle.message_elements.specs.declared.fault.DecodeFault.{DecodeFault}
use Rattle.message_elements.specs.declared.fault.DecodeFault.TheVariants.{Length, Character}
use Rattle.message_elements.specs.Table.{form_of}
use Rattle.message_elements.specs.Values.{set_fault}
use Rattle.iso_message.specs.Fields.{Fields, set_element}
use Rattle.element_spans.specs.declared.span.ElementSpan.{ElementSpan}
use Rattle.element_spans.specs.Spans.{Locates, WritesValue, text_at, end_of}

-- a message with these elements put in, one after the other
abbrev pub with_elements : Fields → List (ℕ × List ℕ) → Fields
with_elements m [] = m
with_elements m (e ∷ es) = with_elements (set_element m e.0 e.1) es

-- a message of a type and of the values at these spans
pub record IsBuilt (kind : Kind) (bytes : List ℕ) (spans : List ElementSpan) (m : Fields) : Type 0 where
  pub elements : List (ℕ × List ℕ)
  pub located : Locates bytes elements spans
  pub is : m ≡ with_elements (record { kind = kind; elements = [] }) elements

-- an element was set to a value that a text writes
pub record SetsText (n : ℕ) (text : List ℕ) (old new : Fields) : Type 0 where
  pub value : List ℕ
  pub written : WritesValue (form_of n) text value
  pub is : new ≡ set_element old n value

-- sixteen hexadecimal digits write eight bytes: what is wrong with a text that doesn't
abbrev pub IsDigitsFault : ℕ → List ℕ → DecodeFault → Type 0
IsDigitsFault n text fault = ((length text ≡ 16 → ⊥) × (fault ≡ Length n)) ⊎ ((length text ≡ 16) × (e : FromHexError) × (decode_sized text 8 ≡ Err e) × (fault ≡ Character n))

-- what is wrong with the text of a value for an element of a form
abbrev pub IsTextFault : Option Form → ℕ → List ℕ → DecodeFault → Type 0
IsTextFault (Some Binary) n text fault = IsDigitsFault n text fault
IsTextFault form n text fault = set_fault form n text ≡ Some fault

-- what is wrong with a span: it ends behind the bytes, or names a text that the element doesn't take
abbrev pub IsSpanFault : List ℕ → ElementSpan → DecodeFault → Type 0
IsSpanFault bytes s fault = ((length bytes < end_of s) × (fault ≡ Length s.number)) ⊎ IsTextFault (form_of s.number) s.number (text_at bytes s) fault

-- behind spans that are right stands the first that isn't
pub record IsFirstFault (bytes : List ℕ) (spans : List ElementSpan) (fault : DecodeFault) : Type 0 where
  pub elements : List (ℕ × List ℕ)
  pub front : List ElementSpan
  pub wrong : ElementSpan
  pub later : List ElementSpan
  pub whole : spans ≡ front ++ wrong ∷ later
  pub located : Locates bytes elements front
  pub is_fault : IsSpanFault bytes wrong fault
