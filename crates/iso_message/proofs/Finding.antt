-- Spans and elements by their numbers.
use Rattle.std.proofs.Common.{◌≡◌, ℕ, zero, suc, ◌+◌, ◌<◌, ◌≤◌, true, false, ltb, eqb, List, [], ◌∷◌, ◌++◌, length, get_or, take, drop, Some, None, refl, sym, ap, subst, ◌∙◌, append_assoc, add-one, drop-cons, arith, inl, inr}
use Rattle.std.proofs.lemmas.Bool.{lt-ltb, le-ltb, eq-eqb, ne_eqb, cases_lt, cases_eq}
use Rattle.std.proofs.Math.Seq.{take-suc}
use Rattle.std.proofs.lemmas.List.{take_all}
use Rattle.std.proofs.Math.ListN.{drop_of_length-le}
use Rattle.std.specs.Prelude.{slice_set, slice_range, insert}
use Rattle.iso_message.specs.declared.elements.Span.{Span}
use Rattle.iso_message.specs.Finding.{find_element, put}
use Rattle.iso_message.proofs.SpansMore.{seen_more, within_more}
use Rattle.iso_message.specs.Spans.{start_of, end_of, shown, seen, IsWithin, AreWithin, IsLonger, placed}

abbrev any : Span
any = record { high = 0; low = 0; len = 0; digits = 0; number = 0 }

drop_past : (i : ℕ) (spans : List Span) → length spans ≤ i → drop i spans ≡ []
drop_past i spans h = drop_of_length-le spans h

next : (spans : List Span) (i : ℕ) → i < length spans → drop i spans ≡ get_or spans i any ∷ drop (i + 1) spans
next spans i h = rw (add-one) (drop-cons spans i any h)

pub within_at : (values : List ℕ) (spans : List Span) (i : ℕ) → i < length spans → AreWithin values (drop i spans) → IsWithin values (get_or spans i any) × AreWithin values (drop (i + 1) spans)
within_at values spans i h w = let both : AreWithin values (get_or spans i any ∷ drop (i + 1) spans) = subst (λ (ss : List Span). AreWithin values ss) (next spans i h) w in (both.0, both.1)

pub found_at : (n : ℕ) (values : List ℕ) (spans : List Span) (i : ℕ) → i < length spans → (get_or spans i any).number ≡ n → find_element n (seen values (drop i spans)) ≡ Some (shown values (get_or spans i any)).1
unfolding find_element
found_at n values spans i h e = rw (next spans i h, eq-eqb _ _ e) refl

pub missed_at : (n : ℕ) (values : List ℕ) (spans : List Span) (i : ℕ) → i < length spans → ((get_or spans i any).number ≡ n → ⊥) → find_element n (seen values (drop i spans)) ≡ find_element n (seen values (drop (i + 1) spans))
unfolding find_element
missed_at n values spans i h e = rw (next spans i h, ne_eqb _ _ e) refl

pub below_at : (s : Span) (spans : List Span) (i : ℕ) → i < length spans → (get_or spans i any).number < s.number → placed s spans ≡ take i spans ++ placed s (drop i spans) → placed s spans ≡ take (i + 1) spans ++ placed s (drop (i + 1) spans)
unfolding placed
below_at s spans i h lt so_far =
    let low : ltb (get_or spans i any).number s.number ≡ true = lt-ltb _ _ lt in
    let here : placed s (drop i spans) ≡ get_or spans i any ∷ placed s (drop (i + 1) spans) = rw (next spans i h, low) refl in
    let more : take (i + 1) spans ≡ take i spans ++ get_or spans i any ∷ [] = rw (add-one) (take-suc spans i any h) in
    so_far ∙ ap (λ ss. take i spans ++ ss) here ∙ sym (append_assoc (take i spans) (get_or spans i any ∷ []) (placed s (drop (i + 1) spans))) ∙ ap (λ ss. ss ++ placed s (drop (i + 1) spans)) (sym more)

set_parts : (spans : List Span) (i : ℕ) (s : Span) → i < length spans → slice_set spans i s ≡ take i spans ++ s ∷ drop (suc i) spans
set_parts [] i s h = absurd (omega arith)
set_parts (x ∷ xs) zero s h = refl
set_parts (x ∷ xs) (suc i) s h = ap (λ ss. x ∷ ss) (set_parts xs i s (omega arith))

pub same_at : (s : Span) (spans : List Span) (i : ℕ) → i < length spans → (get_or spans i any).number ≡ s.number → placed s spans ≡ take i spans ++ placed s (drop i spans) → slice_set spans i s ≡ placed s spans
unfolding placed
same_at s spans i h e so_far =
    let low : ltb (get_or spans i any).number s.number ≡ false = le-ltb _ _ (omega arith) in
    let here : placed s (drop i spans) ≡ s ∷ drop (i + 1) spans = rw (next spans i h, low, eq-eqb _ _ e) refl in
    set_parts spans i s h ∙ ap (λ k. take i spans ++ s ∷ drop k spans) (sym (add-one i)) ∙ sym (so_far ∙ ap (λ ss. take i spans ++ ss) here)

pub at_end : (s : Span) (spans : List Span) (i : ℕ) → length spans ≤ i → placed s spans ≡ take i spans ++ placed s (drop i spans) → insert spans (length spans) s ≡ placed s spans
unfolding placed
at_end s spans i h so_far =
    let none : drop i spans ≡ [] = drop_past i spans h in
    let nothing : drop (length spans) spans ≡ [] = drop_past (length spans) spans (omega arith) in
    rw (take_all (length spans) spans (omega arith), nothing) (sym (so_far ∙ ap (λ ss. take i spans ++ placed s ss) none ∙ ap (λ ss. ss ++ s ∷ []) (take_all i spans h)))

pub none_left : (n : ℕ) (values : List ℕ) (spans : List Span) (i : ℕ) → length spans ≤ i → find_element n (seen values (drop i spans)) ≡ None
unfolding find_element
none_left n values spans i h = rw (drop_past i spans h) refl

pub above_at : (s : Span) (spans : List Span) (i : ℕ) → i < length spans → s.number < (get_or spans i any).number → placed s spans ≡ take i spans ++ placed s (drop i spans) → insert spans i s ≡ placed s spans
unfolding placed
above_at s spans i h lt so_far =
    let low : ltb (get_or spans i any).number s.number ≡ false = le-ltb _ _ (omega arith) in
    let apart : eqb (get_or spans i any).number s.number ≡ false = ne_eqb _ _ (λ e. omega arith) in
    let here : placed s (drop i spans) ≡ s ∷ drop i spans = rw (next spans i h, low, apart) refl in
    sym (so_far ∙ ap (λ ss. take i spans ++ ss) here)

pub seen_placed : (values : List ℕ) (s : Span) (spans : List Span) → seen values (placed s spans) ≡ put s.number (shown values s).1 (seen values spans)
unfolding placed put
seen_placed values s [] = refl
seen_placed values s (x ∷ xs) =
    elim (cases_lt x.number s.number) [
      | inl lt ↦ rw (lt-ltb _ _ lt) (ap (λ es. shown values x ∷ es) (seen_placed values s xs))
      | inr le ↦
          elim (cases_eq x.number s.number) [
            | inl e ↦ rw (le-ltb _ _ le, eq-eqb _ _ e) refl
            | inr ne ↦ rw (le-ltb _ _ le, ne_eqb _ _ ne) refl
          ]
    ]

pub within_placed : (values : List ℕ) (s : Span) (spans : List Span) → IsWithin values s → AreWithin values spans → AreWithin values (placed s spans)
unfolding placed
within_placed values s [] h w = (h, tt)
within_placed values s (x ∷ xs) h w =
    elim (cases_lt x.number s.number) [
      | inl lt ↦ rw (lt-ltb _ _ lt) (w.0, within_placed values s xs h w.1)
      | inr le ↦
          elim (cases_eq x.number s.number) [
            | inl e ↦ rw (le-ltb _ _ le, eq-eqb _ _ e) (h, w.1)
            | inr ne ↦ rw (le-ltb _ _ le, ne_eqb _ _ ne) (h, w)
          ]
    ]

-- an element that stands behind the others is put in its place
pub put_behind : (old new : List ℕ) (spans : List Span) (s : Span) (n : ℕ) (value : List ℕ) → IsLonger old new → AreWithin old spans → s.number ≡ n → slice_range new (start_of s) (end_of s) ≡ value
    → seen new (placed s spans) ≡ put n value (seen old spans)
put_behind old new spans s n value l h at is =
    let longer : seen new spans ≡ seen old spans = ap (λ v. seen v spans) (IsLonger.is l) ∙ seen_more old (IsLonger.more l) spans h in
    seen_placed new s spans
    ∙ ap (λ (v : List ℕ). put s.number v (seen new spans)) is
    ∙ ap (λ k. put k value (seen new spans)) at
    ∙ ap (put n value) longer

pub longer_within : (old new : List ℕ) (spans : List Span) → IsLonger old new → AreWithin old spans → AreWithin new spans
longer_within old new spans l h = rw (IsLonger.is l) (within_more old (IsLonger.more l) spans h)

pub longer_seen : (old new : List ℕ) (spans : List Span) → IsLonger old new → AreWithin old spans → seen new spans ≡ seen old spans
longer_seen old new spans l h = rw (IsLonger.is l) (seen_more old (IsLonger.more l) spans h)

pub placed_within : (old new : List ℕ) (spans : List Span) (s : Span) → IsLonger old new → AreWithin old spans → IsWithin new s → AreWithin new (placed s spans)
placed_within old new spans s l h w = within_placed new s spans w (longer_within old new spans l h)
