-- Spans show the same in a longer buffer.
use Rattle.std.proofs.Common.{◌≡◌, ℕ, ◌+◌, ◌-◌, ◌≤◌, ◌<◌, true, false, List, [], ◌∷◌, ◌++◌, length, take, drop, Option, Some, None, Result, Ok, Err, refl, sym, ap, ◌∙◌, append_assoc, arith, length-append, length-drop}
use Rattle.std.specs.Prelude.{slice_range, OnErr}
use Rattle.std.proofs.lemmas.List.{take-append-le, drop-append-le, drop_at, take_all}
use Rattle.iso_message.specs.declared.elements.Span.{Span}
use Rattle.message_elements.specs.declared.form.Form.{Form}
use Rattle.message_elements.specs.declared.form.Form.TheVariants as forms
use Rattle.message_elements.specs.Table.{form_of}
use Rattle.iso_message.specs.Spelling.{IsGood, is_binary, piece, length_text}
use Rattle.iso_message.specs.Spans.{text_of, start_of, end_of, shown, seen, IsWithin, AreWithin}

pub range_more : (values more : List ℕ) (i j : ℕ) → i ≤ j → j ≤ length values → slice_range (values ++ more) i j ≡ slice_range values i j
range_more values more i j h k =
    let at : drop i (values ++ more) ≡ drop i values ++ more = drop-append-le i values more (omega arith) in
    ap (take (j - i)) at ∙ take-append-le (j - i) (drop i values) more (omega (arith, length-drop i values))

pub seen_more : (values more : List ℕ) (spans : List Span) → AreWithin values spans → seen (values ++ more) spans ≡ seen values spans
seen_more values more [] h = refl
seen_more values more (s ∷ ss) h =
    let first : slice_range (values ++ more) (start_of s) (end_of s) ≡ slice_range values (start_of s) (end_of s) = range_more values more (start_of s) (end_of s) (omega arith) h.0.inside in
    let others : seen (values ++ more) ss ≡ seen values ss = seen_more values more ss h.1 in
    ap (λ (v : List ℕ). (s.number, v) ∷ seen (values ++ more) ss) first ∙ ap (λ (es : List (ℕ × List ℕ)). shown values s ∷ es) others

pub within_more : (values more : List ℕ) (spans : List Span) → AreWithin values spans → AreWithin (values ++ more) spans
within_more values more [] h = tt
within_more values more (s ∷ ss) h = (
  record {
    inside = omega (arith, h.0.inside, length-append values more);
    spelled = λ other. rw (range_more values more (text_of s) (end_of s) (omega arith) h.0.inside, range_more values more (start_of s) (end_of s) (omega arith) h.0.inside) (h.0.spelled other);
  },
  within_more values more ss h.1,
)

pub within_push : (values : List ℕ) (spans : List Span) (s : Span) → AreWithin values spans → IsWithin values s → AreWithin values (spans ++ s ∷ [])
within_push values [] s h k = (k, tt)
within_push values (x ∷ xs) s h k = (h.0, within_push values xs s h.1 k)

pub seen_push : (values : List ℕ) (spans : List Span) (s : Span) → seen values (spans ++ s ∷ []) ≡ seen values spans ++ shown values s ∷ []
seen_push values [] s = refl
seen_push values (x ∷ xs) s = ap (λ (es : List (ℕ × List ℕ)). shown values x ∷ es) (seen_push values xs s)

pub range_last : (values more : List ℕ) (i j : ℕ) → i ≡ length values → j ≡ length values + length more → slice_range (values ++ more) i j ≡ more
range_last values more i j h k =
    let at : drop i (values ++ more) ≡ more = drop_at values more i (sym h) in
    ap (take (j - i)) at ∙ take_all (j - i) more (omega arith)

-- the piece of a value that is no binary one is its length's digits and the value
piece_parts : (form : Option Form) (v : List ℕ) → IsGood form v → is_binary form ≡ false → length_text form (length v) ++ v ≡ piece form v
piece_parts None v g other = absurd g
piece_parts (Some (forms.Fixed class size)) v g other = refl
piece_parts (Some (forms.Llvar class most)) v g other = refl
piece_parts (Some (forms.Lllvar class most)) v g other = refl
piece_parts (Some forms.Binary) v g other = absurd cc

pub few_digits : (form : Option Form) (n : ℕ) → length (length_text form n) < 4
few_digits None n = omega arith
few_digits (Some (forms.Fixed class size)) n = omega arith
few_digits (Some (forms.Llvar class most)) n = omega arith
few_digits (Some (forms.Lllvar class most)) n = omega arith
few_digits (Some forms.Binary) n = omega arith

-- the span of a piece that was added behind a buffer
module _ (old digits content new : List ℕ) (s : Span) (whole : new ≡ (old ++ digits) ++ content)
    (text : text_of s ≡ length old) (before : s.digits ≡ length digits) (len : s.len ≡ length content) where
  pub added_shows : slice_range new (start_of s) (end_of s) ≡ content
  added_shows =
      ap (λ vs. slice_range vs (start_of s) (end_of s)) whole
      ∙ range_last (old ++ digits) content (start_of s) (end_of s) (omega (arith, text, before, length-append old digits)) (omega (arith, text, before, len, length-append old digits))

  pub added_within : digits ≡ length_text (form_of s.number) (length content) → IsGood (form_of s.number) content → IsWithin new s
  added_within d g = record {
    inside = omega (arith, ap length whole, length-append (old ++ digits) content, length-append old digits, text, before, len);
    spelled = λ other.
        ap (λ vs. slice_range vs (text_of s) (end_of s)) (whole ∙ append_assoc old digits content)
        ∙ range_last old (digits ++ content) (text_of s) (end_of s) text (omega (arith, text, before, len, length-append digits content))
        ∙ ap (λ ds. ds ++ content) d
        ∙ piece_parts (form_of s.number) content g other
        ∙ ap (piece (form_of s.number)) (sym added_shows);
  }

pub within_pushed : (values more : List ℕ) (spans : List Span) (s : Span) → AreWithin values spans → start_of s ≡ length values → s.len ≡ length more → is_binary (form_of s.number) ≡ true → AreWithin (values ++ more) (spans ++ s ∷ [])
within_pushed values more spans s h i j binary =
    within_push (values ++ more) spans s (within_more values more spans h) (record { inside = omega (arith, i, j, length-append values more); spelled = λ other. absurd (let wrong : true ≡ false = sym binary ∙ other in cc) })

pub seen_pushed : (values more : List ℕ) (spans : List Span) (s : Span) → AreWithin values spans → start_of s ≡ length values → s.len ≡ length more
    → seen (values ++ more) (spans ++ s ∷ []) ≡ seen values spans ++ (s.number, more) ∷ []
seen_pushed values more spans s h i j =
    seen_push (values ++ more) spans s
    ∙ ap (λ (es : List (ℕ × List ℕ)). es ++ shown (values ++ more) s ∷ []) (seen_more values more spans h)
    ∙ ap (λ (v : List ℕ). seen values spans ++ (s.number, v) ∷ []) (range_last values more (start_of s) (end_of s) i (omega (arith, i, j)))

pub on_err : {A E : Type 0} (r : Result A E) (P : Type 0) → P → OnErr r P
on_err (Ok x) P p = tt
on_err (Err e) P p = p
