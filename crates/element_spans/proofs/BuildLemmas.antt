-- Elements that are put into a message from their texts.
use Rattle.std.proofs.Common.{◌≡◌, ℕ, true, false, suc, ◌<◌, List, [], ◌∷◌, ◌++◌, length, take, drop, get_or, take-append-drop, Option, Some, None, Ok, refl, sym, ap, ◌∙◌}
use Rattle.std.proofs.Math.Seq.{drop-cons}
use Rattle.hex.specs.Hex.{decode_sized}
use Rattle.message_elements.specs.declared.form.Form.{Form}
use Rattle.message_elements.specs.declared.form.Form.TheVariants.{Fixed, Llvar, Lllvar, Binary}
use Rattle.message_elements.specs.declared.fault.DecodeFault.{DecodeFault}
use Rattle.message_elements.specs.Table.{form_of}
use Rattle.message_elements.specs.Values.{set_fault}
use Rattle.iso_message.specs.Fields.{Fields, set_element}
use Rattle.iso_message.specs.Spelling.{is_binary}
use Rattle.element_spans.specs.declared.span.ElementSpan.{ElementSpan}
use Rattle.element_spans.specs.Spans.{Locates, WritesValue, text_at}
use Rattle.element_spans.specs.Building.{IsDigitsFault, IsTextFault, IsSpanFault, IsFirstFault, with_elements}
use Rattle.element_spans.proofs.SpanLemmas.{any}

pub plain_writes : (form : Option Form) (text : List ℕ) → is_binary form ≡ false → WritesValue form text text
plain_writes None text plain = refl
plain_writes (Some (Fixed class size)) text plain = refl
plain_writes (Some (Llvar class most)) text plain = refl
plain_writes (Some (Lllvar class most)) text plain = refl
plain_writes (Some Binary) text plain = absurd cc

pub plain_fault : (form : Option Form) (n : ℕ) (text : List ℕ) (fault : DecodeFault) → is_binary form ≡ false → set_fault form n text ≡ Some fault → IsTextFault form n text fault
plain_fault None n text fault plain h = h
plain_fault (Some (Fixed class size)) n text fault plain h = h
plain_fault (Some (Llvar class most)) n text fault plain h = h
plain_fault (Some (Lllvar class most)) n text fault plain h = h
plain_fault (Some Binary) n text fault plain h = absurd cc

pub binary_writes : (form : Option Form) (text value : List ℕ) → is_binary form ≡ true → decode_sized text 8 ≡ Ok value → WritesValue form text value
binary_writes None text value binary h = absurd cc
binary_writes (Some (Fixed class size)) text value binary h = absurd cc
binary_writes (Some (Llvar class most)) text value binary h = absurd cc
binary_writes (Some (Lllvar class most)) text value binary h = absurd cc
binary_writes (Some Binary) text value binary h = h

pub binary_fault : (form : Option Form) (n : ℕ) (text : List ℕ) (fault : DecodeFault) → is_binary form ≡ true → IsDigitsFault n text fault → IsTextFault form n text fault
binary_fault None n text fault binary h = absurd cc
binary_fault (Some (Fixed class size)) n text fault binary h = absurd cc
binary_fault (Some (Llvar class most)) n text fault binary h = absurd cc
binary_fault (Some (Lllvar class most)) n text fault binary h = absurd cc
binary_fault (Some Binary) n text fault binary h = h

-- eight bytes are right for an element of eight bytes
pub eight_are_right : (form : Option Form) (n : ℕ) (value : List ℕ) (fault : DecodeFault) → is_binary form ≡ true → length value ≡ 8 → set_fault form n value ≡ Some fault → ⊥
eight_are_right None n value fault binary long h = absurd cc
eight_are_right (Some (Fixed class size)) n value fault binary long h = absurd cc
eight_are_right (Some (Llvar class most)) n value fault binary long h = absurd cc
eight_are_right (Some (Lllvar class most)) n value fault binary long h = absurd cc
eight_are_right (Some Binary) n value fault binary long h = let right : set_fault (Some Binary) n value ≡ None = rw long refl in cc

-- one more element
pub located_more : (bytes : List ℕ) (es : List (ℕ × List ℕ)) (spans : List ElementSpan) (s : ElementSpan) (value : List ℕ) → Locates bytes es spans → WritesValue (form_of s.number) (text_at bytes s) value → Locates bytes (es ++ (s.number, value) ∷ []) (spans ++ s ∷ [])
located_more bytes [] [] s value before here = (refl, here, refl)
located_more bytes [] (x ∷ spans) s value before here = absurd cc
located_more bytes (e ∷ es) [] s value before here = absurd before
located_more bytes (e ∷ es) (x ∷ spans) s value before here = (before.0, before.1, located_more bytes es spans s value before.2 here)

pub with_more : (m : Fields) (es : List (ℕ × List ℕ)) (e : ℕ × List ℕ) → with_elements m (es ++ e ∷ []) ≡ set_element (with_elements m es) e.0 e.1
with_more m [] e = refl
with_more m (x ∷ es) e = with_more (set_element m x.0 x.1) es e

-- the first fault stands behind spans that are right
pub first_fault : (bytes : List ℕ) (spans : List ElementSpan) (i : ℕ) (es : List (ℕ × List ℕ)) (fault : DecodeFault) → i < length spans → Locates bytes es (take i spans) → IsSpanFault bytes (get_or spans i any) fault → IsFirstFault bytes spans fault
first_fault bytes spans i es fault h before here = record {
  elements = es;
  front = take i spans;
  wrong = get_or spans i any;
  later = drop (suc i) spans;
  whole = sym (take-append-drop i spans) ∙ ap (λ rest. take i spans ++ rest) (drop-cons spans i any h);
  located = before;
  is_fault = here;
}
