-- Where the elements of a message stand in its bytes.
use Rattle.std.specs.Prelude.{◌≡◌, ℕ, ◌+◌, ◌≤◌, ◌==◌, List, [], ◌∷◌, length, take, drop, Option, Some, None, Ok, if◌then◌else◌}
use Rattle.hex.specs.Hex.{decode_sized}
use Rattle.message_elements.specs.declared.form.Form.{Form}
use Rattle.message_elements.specs.declared.form.Form.TheVariants.{Llvar, Lllvar, Binary}
use Rattle.message_elements.specs.declared.kind.Kind.{Kind}
use Rattle.message_elements.specs.Table.{form_of}
use Rattle.iso_message.specs.Elements.{field_at}
use Rattle.iso_message.specs.Fields.{Fields}
use Rattle.iso_message.specs.Messages.{read}
use Rattle.iso_message.specs.Unread.{Left, read_on}
use Rattle.element_spans.specs.declared.span.ElementSpan.{ElementSpan}

-- a text writes a value in a form: sixteen hexadecimal digits write eight bytes, and any other value is its own text
abbrev pub WritesValue : Option Form → List ℕ → List ℕ → Type 0
WritesValue (Some Binary) text value = decode_sized text 8 ≡ Ok value
WritesValue _ text value = text ≡ value

-- the bytes of a message that a span names
abbrev pub text_at : List ℕ → ElementSpan → List ℕ
text_at message s = take s.length (drop s.start message)

-- each span has the number of an element, in order, and names the bytes that write its value
abbrev pub Locates : List ℕ → List (ℕ × List ℕ) → List ElementSpan → Type 0
Locates message [] spans = spans ≡ []
Locates message (e ∷ es) [] = ⊥
Locates message (e ∷ es) (s ∷ spans) = (s.number ≡ e.0) × WritesValue (form_of e.0) (text_at message s) e.1 × Locates message es spans

-- so many spans stand first, and locate the elements of the message that the bytes spell
pub record LocatesAll (message : List ℕ) (spans : List ElementSpan) (count : ℕ) : Type 0 where
  pub found : Fields
  pub is_read : read message ≡ Ok found
  pub located : Locates message found.elements (take count spans)

-- the bytes spell a message of so many elements
pub record HasCount (message : List ℕ) (count : ℕ) : Type 0 where
  pub found : Fields
  pub is_read : read message ≡ Ok found
  pub counted : length found.elements ≡ count

-- the first span of a number
abbrev pub span_of : ℕ → List ElementSpan → Option ElementSpan
span_of n [] = None
span_of n (s ∷ spans) = if s.number == n then Some s else span_of n spans

-- how many digits of its length an element begins with
abbrev pub length_digits : Option Form → ℕ
length_digits (Some (Llvar class most)) = 2
length_digits (Some (Lllvar class most)) = 3
length_digits _ = 0

-- how many bytes write a value
abbrev pub text_length : Option Form → List ℕ → ℕ
text_length (Some Binary) value = 16
text_length _ value = length value

-- the span of an element whose piece begins at a place
abbrev pub span_at : ℕ → ℕ × List ℕ → ElementSpan
span_at place e = record { start = place + length_digits (form_of e.0); length = text_length (form_of e.0) e.1; number = e.0 }

abbrev pub end_of : ElementSpan → ℕ
end_of s = s.start + s.length

-- the spans of elements whose pieces stand one behind the other from a place on, and where they end
abbrev pub spans_from : ℕ → List (ℕ × List ℕ) → List ElementSpan
spans_from place [] = []
spans_from place (e ∷ es) = span_at place e ∷ spans_from (end_of (span_at place e)) es

abbrev pub end_from : ℕ → List (ℕ × List ℕ) → ℕ
end_from place [] = place
end_from place (e ∷ es) = end_from (end_of (span_at place e)) es

-- the same span, so many bytes on
abbrev pub moved : ℕ → ElementSpan → ElementSpan
moved by s = record s { start = s.start + by }

-- the next element was taken, and this is its span where its piece begins at the place
pub record TakesElement (number place : ℕ) (bytes rest : List ℕ) (s : ElementSpan) : Type 0 where
  pub value : List ℕ
  pub found : field_at (form_of number) number bytes ≡ Ok (value, rest)
  pub is : s ≡ span_at place (number, value)

-- the elements that are left of a message, so many, and their spans, as far as there are places, where the first begins at 0
pub record LaysOut (left : Left) (spans : List ElementSpan) (count end : ℕ) : Type 0 where
  pub elements : List (ℕ × List ℕ)
  pub found : (kind : Kind) → read_on kind [] left ≡ Ok (record { kind = kind; elements = elements })
  pub counted : count ≡ length elements
  pub ended : end ≡ end_from 0 elements
  pub laid : count ≤ length spans → take count spans ≡ spans_from 0 elements
