-- Spans of elements that stand one behind the other.
use Rattle.std.proofs.Common.{◌≡◌, ℕ, suc, ◌+◌, ◌^◌, ◌<◌, ◌≤◌, true, false, List, [], ◌∷◌, ◌++◌, length, map, take, drop, get_or, length-drop, Option, Some, None, refl, sym, ap, ◌∙◌, arith}
use Rattle.std.specs.Prelude.{All}
use Rattle.std.proofs.lemmas.List.Elements.{All-nil, All-cons}
use Rattle.std.proofs.lemmas.List.{take_more, take_more_set, drop-set-lt, map-append}
use Rattle.std.proofs.Math.Seq.{drop-cons}
use Rattle.std.proofs.Math.ListN.{set}
use Rattle.message_elements.specs.declared.form.Form.{Form}
use Rattle.message_elements.specs.declared.form.Form.TheVariants.{Fixed, Llvar, Lllvar, Binary}
use Rattle.message_elements.specs.Table.{form_of}
use Rattle.iso_message.specs.Spelling.{is_binary}
use Rattle.element_spans.specs.declared.span.ElementSpan.{ElementSpan}
use Rattle.element_spans.specs.Spans.{length_digits, text_length, span_at, end_of, spans_from, end_from, moved, span_of}

pub plain_length : (form : Option Form) (value : List ℕ) → is_binary form ≡ false → text_length form value ≡ length value
plain_length None value plain = refl
plain_length (Some (Fixed class size)) value plain = refl
plain_length (Some (Llvar class most)) value plain = refl
plain_length (Some (Lllvar class most)) value plain = refl
plain_length (Some Binary) value plain = absurd cc

pub binary_length : (form : Option Form) (value : List ℕ) → is_binary form ≡ true → (text_length form value ≡ 16) × (length_digits form ≡ 0)
binary_length None value binary = absurd cc
binary_length (Some (Fixed class size)) value binary = absurd cc
binary_length (Some (Llvar class most)) value binary = absurd cc
binary_length (Some (Lllvar class most)) value binary = absurd cc
binary_length (Some Binary) value binary = (refl, refl)

pub few_digits : (form : Option Form) → length_digits form ≤ 3
few_digits None = omega arith
few_digits (Some (Fixed class size)) = omega arith
few_digits (Some (Llvar class most)) = omega arith
few_digits (Some (Lllvar class most)) = omega arith
few_digits (Some Binary) = omega arith

-- one more element
pub spans_more : (place : ℕ) (es : List (ℕ × List ℕ)) (e : ℕ × List ℕ) → spans_from place (es ++ e ∷ []) ≡ spans_from place es ++ span_at (end_from place es) e ∷ []
spans_more place [] e = refl
spans_more place (x ∷ es) e = ap (λ spans. span_at place x ∷ spans) (spans_more (end_of (span_at place x)) es e)

pub end_more : (place : ℕ) (es : List (ℕ × List ℕ)) (e : ℕ × List ℕ) → end_from place (es ++ e ∷ []) ≡ end_of (span_at (end_from place es) e)
end_more place [] e = refl
end_more place (x ∷ es) e = end_more (end_of (span_at place x)) es e

pub spans_length : (place : ℕ) (es : List (ℕ × List ℕ)) → length (spans_from place es) ≡ length es
spans_length place [] = refl
spans_length place (e ∷ es) = ap (λ n. suc n) (spans_length (end_of (span_at place e)) es)

moved_at : (by place : ℕ) (e : ℕ × List ℕ) → moved by (span_at place e) ≡ span_at (place + by) e
moved_at by place e =
    let start : place + length_digits (form_of e.0) + by ≡ place + by + length_digits (form_of e.0) = omega arith in
    ap (λ k. record { start = k; length = text_length (form_of e.0) e.1; number = e.0 }) start

-- elements that begin so many bytes on
pub all_moved : (by place : ℕ) (es : List (ℕ × List ℕ)) → map (moved by) (spans_from place es) ≡ spans_from (place + by) es
all_moved by place [] = refl
all_moved by place (e ∷ es) =
    let end = end_of (span_at place e) in
    let behind : end + by ≡ end_of (span_at (place + by) e) = omega arith in
    let rest : map (moved by) (spans_from end es) ≡ spans_from (end_of (span_at (place + by) e)) es = all_moved by end es ∙ ap (λ k. spans_from k es) behind in
    ap (λ spans. moved by (span_at place e) ∷ spans) rest ∙ ap (λ s. s ∷ spans_from (end_of (span_at (place + by) e)) es) (moved_at by place e)

pub ends_behind : (place : ℕ) (es : List (ℕ × List ℕ)) → place ≤ end_from place es
ends_behind place [] = omega arith
ends_behind place (e ∷ es) = omega (arith, ends_behind (end_of (span_at place e)) es)

-- no span begins behind the end
pub starts_fit : (by place : ℕ) (es : List (ℕ × List ℕ)) → end_from place es + by < 2 ^ 64 → All (λ s. s.start + by < 2 ^ 64) (spans_from place es)
starts_fit by place [] fits = All-nil (λ (s : ElementSpan). s.start + by < 2 ^ 64)
starts_fit by place (e ∷ es) fits =
    let end = end_of (span_at place e) in
    let here : (span_at place e).start + by < 2 ^ 64 = omega (arith, ends_behind end es, fits) in
    All-cons (λ (s : ElementSpan). s.start + by < 2 ^ 64) (span_at place e) (spans_from end es) here (starts_fit by end es fits)

abbrev pub any : ElementSpan
any = record { start = 0; length = 0; number = 0 }

-- a list of which only what stands in front was changed
pub same_left : (xs old : List ElementSpan) (i : ℕ) → i < length old → drop i xs ≡ drop i old → (i < length xs) × (get_or xs i any ≡ get_or old i any)
same_left xs old i k left =
    let h : i < length xs = omega (arith, ap length left, length-drop i xs, length-drop i old) in
    let heads : get_or xs i any ∷ drop (suc i) xs ≡ get_or old i any ∷ drop (suc i) old = sym (drop-cons xs i any h) ∙ left ∙ drop-cons old i any k in
    (h, cc)

-- a loop that moves spans on: one more was moved
pub moved_more : (xs old : List ElementSpan) (i by : ℕ) (d : ElementSpan) → i < length xs → i < length old → take i xs ≡ map (moved by) (take i old) → drop i xs ≡ drop i old
    → (take (i + 1) (set xs i (moved by (get_or xs i d))) ≡ map (moved by) (take (i + 1) old)) × (drop (i + 1) (set xs i (moved by (get_or xs i d))) ≡ drop (i + 1) old)
moved_more xs old i by d h k done left =
    let y = moved by (get_or xs i d) in
    let heads : get_or xs i d ∷ drop (suc i) xs ≡ get_or old i d ∷ drop (suc i) old = sym (drop-cons xs i d h) ∙ left ∙ drop-cons old i d k in
    let same : get_or xs i d ≡ get_or old i d = cc in
    let rest : drop (suc i) xs ≡ drop (suc i) old = cc in
    let next : i + 1 ≡ suc i = omega arith in
    let front : take (i + 1) (set xs i y) ≡ map (moved by) (take i old) ++ y ∷ [] = take_more_set xs i y h ∙ ap (λ z. z ++ y ∷ []) done in
    let whole : map (moved by) (take (i + 1) old) ≡ map (moved by) (take i old) ++ moved by (get_or old i d) ∷ [] = ap (map (moved by)) (take_more old i d k) ∙ map-append (moved by) (take i old) (get_or old i d ∷ []) in (
      front ∙ ap (λ z. map (moved by) (take i old) ++ moved by z ∷ []) same ∙ sym whole,
      drop-set-lt (i + 1) xs i y (omega arith) ∙ ap (λ n. drop n xs) next ∙ rest ∙ ap (λ n. drop n old) (sym next),
    )

-- the spans from one on
pub next_span : (n : ℕ) (spans : List ElementSpan) (i : ℕ) (d : ElementSpan) → i < length spans → span_of n (drop i spans) ≡ span_of n (get_or spans i d ∷ drop (i + 1) spans)
next_span n spans i d h =
    let next : suc i ≡ i + 1 = omega arith in
    ap (span_of n) (drop-cons spans i d h ∙ ap (λ k. get_or spans i d ∷ drop k spans) next)
