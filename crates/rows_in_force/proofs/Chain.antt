-- From the last row of a prefix to the first, all own rows are met.
use Rattle.std.proofs.Common.{◌≡◌, ℕ, zero, suc, ◌<◌, ◌≤◌, ◌==◌, ◌&&◌, Bool, true, false, List, [], ◌∷◌, length, drop, Option, Some, None, is_some, refl, sym, ◌∙◌, inl, inr, arith}
use Rattle.std.specs.Prelude.{slice_get}
use Rattle.std.specs.List.{find}
use Rattle.std.specs.Map.{lookup}
use Rattle.std.specs.Cmp.Lexicographic.{pointwise}
use Rattle.std.proofs.lemmas.Bool.{cases_Bool, false≢true}
use Rattle.std.proofs.lemmas.Option.{same_Some}
use Rattle.rows_in_force.specs.Own.{last_below, is_at, own_row}

-- what stands at a place and behind it
pub drop_at : {R : Type 0} (rows : List R) (i : ℕ) (r : R) → slice_get rows i ≡ Some r → drop i rows ≡ r ∷ drop (suc i) rows
drop_at [] i r e = absurd cc
drop_at (x ∷ rows) zero r e = let same : x ≡ r = same_Some x r e in rw same refl
drop_at (x ∷ rows) (suc i) r e = drop_at rows i r e

pub there : {R : Type 0} (rows : List R) (i : ℕ) → i < length rows → (r : R) × (slice_get rows i ≡ Some r)
there [] i lt = absurd (omega arith)
there (r ∷ rows) zero lt = (r, refl)
there (r ∷ rows) (suc i) lt = there rows i (omega arith)

pub last_less : (t : ℕ → Bool) (n i : ℕ) → last_below t n ≡ Some i → i < n
last_less t zero i e = absurd cc
last_less t (suc n) i e = elim (cases_Bool (t n)) [
  | inl is ↦ let same : n ≡ i = same_Some n i (rw is at e) in omega arith
  | inr not ↦ let less = last_less t n i (rw not at e) in omega arith
]

pub last_passes : (t : ℕ → Bool) (n i : ℕ) → last_below t n ≡ Some i → t i ≡ true
last_passes t zero i e = absurd cc
last_passes t (suc n) i e = elim (cases_Bool (t n)) [
  | inl is ↦ let same : n ≡ i = same_Some n i (rw is at e) in rw (← same) is
  | inr not ↦ last_passes t n i (rw not at e)
]

module _ {R : Type 0} (g : R → ℕ) (f : R → List ℕ) (rows : List R) (n : ℕ) (p : List ℕ) where
  abbrev own : R → Bool
  own r = (g r == n) && pointwise ◌==◌ (f r) p

  not_own : (r : R) → pointwise ◌==◌ (f r) p ≡ false → own r ≡ false
  not_own r other = elim (cases_Bool (g r == n)) [ inl mine ↦ rw (mine, other) refl | inr not ↦ rw not refl ]

  -- a row of another prefix makes no difference
  passed_by : (m : ℕ) → m < length rows → is_at f rows p m ≡ false → find own (drop m rows) ≡ find own (drop (suc m) rows)
  passed_by m lt other =
      let here = there rows m lt in
      let apart : pointwise ◌==◌ (f here.0) p ≡ false = rw here.1 at other in
      rw (drop_at rows m here.0 here.1, not_own here.0 apart) refl

  -- between the last row of the prefix below m and m there is none of them
  pub none_between : (m i : ℕ) → m ≤ length rows → last_below (is_at f rows p) m ≡ Some i → find own (drop (suc i) rows) ≡ find own (drop m rows)
  none_between zero i le e = absurd cc
  none_between (suc m) i le e = elim (cases_Bool (is_at f rows p m)) [
    | inl is ↦ let same : m ≡ i = same_Some m i (rw is at e) in rw same refl
    | inr not ↦ none_between m i (omega arith) (rw not at e) ∙ passed_by m (omega arith) not
  ]

  pub none_before : (m : ℕ) → m ≤ length rows → last_below (is_at f rows p) m ≡ None → own_row g f rows n p ≡ find own (drop m rows)
  none_before zero le e = refl
  none_before (suc m) le e = elim (cases_Bool (is_at f rows p m)) [
    | inl is ↦ absurd (let bad : Some m ≡ None = rw is at e in cc)
    | inr not ↦ none_before m (omega arith) (rw not at e) ∙ passed_by m (omega arith) not
  ]

  -- a prefix that has no last row has none
  pub none_of : (last : List (List ℕ × ℕ)) → lookup (λ q. pointwise ◌==◌ p q) last ≡ last_below (is_at f rows p) (length rows) → is_some (lookup (λ q. pointwise ◌==◌ p q) last) ≡ false → own_row g f rows n p ≡ None
  none_of last last_of not = none_before (length rows) (omega arith) (sym last_of ∙ nothing (lookup (λ q. pointwise ◌==◌ p q) last) not) ∙ rw (drop_all rows) refl
    where
      nothing : (o : Option ℕ) → is_some o ≡ false → o ≡ None
      nothing None not = refl
      nothing (Some i) not = absurd (false≢true (sym not))

      drop_all : {A : Type 0} (xs : List A) → drop (length xs) xs ≡ []
      drop_all [] = refl
      drop_all (x ∷ xs) = drop_all xs
