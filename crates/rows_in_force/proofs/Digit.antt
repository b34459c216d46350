-- One digit more: the rows of just these digits, and else the row in force without the last.
use Rattle.std.proofs.Common.{◌≡◌, ℕ, ◌+◌, ◌<◌, ◌≤◌, ◌==◌, ◌&&◌, ◌||◌, Bool, true, false, List, [], ◌∷◌, ◌++◌, length, length-append, Option, Some, None, refl, ◌∙◌, inl, inr, arith}
use Rattle.std.specs.List.{filter, find}
use Rattle.std.specs.Option.{option_or}
use Rattle.std.specs.Cmp.Lexicographic.{pointwise}
use Rattle.std.proofs.lemmas.Bool.{cases_Bool, and_parts, false≢true, lt-ltb, le-ltb}
use Rattle.std.proofs.lemmas.Option.{same_Some}
use Rattle.card_digits.specs.Longest.{begins, better}
use Rattle.card_digits.proofs.Classes.{some_longest}
use Rattle.rows_in_force.specs.InForce.{in_force}
use Rattle.rows_in_force.specs.Own.{own_row}

-- what begins the digits begins all but the last of them, or is all of them
begins_more : (p ds : List ℕ) (d : ℕ) → begins p (ds ++ d ∷ []) ≡ (begins p ds || pointwise ◌==◌ p (ds ++ d ∷ []))
begins_more [] ds d = refl
begins_more (x ∷ []) [] d = elim (cases_Bool (x == d)) [ inl same ↦ rw same refl | inr apart ↦ rw apart refl ]
begins_more (x ∷ (y ∷ p)) [] d = elim (cases_Bool (x == d)) [ inl same ↦ rw same refl | inr apart ↦ rw apart refl ]
begins_more (x ∷ p) (e ∷ ds) d = elim (cases_Bool (x == e)) [ inl same ↦ rw same (begins_more p ds d) | inr apart ↦ rw apart refl ]

begins-length : (p ds : List ℕ) → begins p ds ≡ true → length p ≤ length ds
begins-length [] ds h = omega arith
begins-length (x ∷ p) [] h = absurd (false≢true h)
begins-length (x ∷ p) (d ∷ ds) h = let more = begins-length p ds (and_parts (x == d) (begins p ds) h).1 in omega arith

whole-length : (p ds : List ℕ) → pointwise ◌==◌ p ds ≡ true → length p ≡ length ds
whole-length [] [] h = refl
whole-length [] (d ∷ ds) h = absurd (false≢true h)
whole-length (x ∷ p) [] h = absurd (false≢true h)
whole-length (x ∷ p) (d ∷ ds) h = let more = whole-length p ds (and_parts (x == d) (pointwise ◌==◌ p ds) h).1 in omega arith

find_passes : {R : Type 0} (t : R → Bool) (rows : List R) (s : R) → find t rows ≡ Some s → t s ≡ true
find_passes t [] s h = absurd cc
find_passes t (r ∷ rows) s h = elim (cases_Bool (t r)) [
  | inl is ↦ let same : r ≡ s = same_Some r s (rw is at h) in rw (← same) is
  | inr no' ↦ find_passes t rows s (rw no' at h)
]

module _ {R : Type 0} (g : R → ℕ) (f : R → List ℕ) where
  -- a row as long as all digits stays before one that begins them
  stays : (r : R) (o : Option R) → ((s : R) → o ≡ Some s → length (f s) ≤ length (f r)) → better f r o ≡ Some r
  stays r None h = refl
  stays r (Some s) h = let le = h s refl in rw (le-ltb (length (f r)) (length (f s)) le) refl

  -- a shorter row gives way
  gives_way : (r : R) (o p : Option R) → ((s : R) → o ≡ Some s → length (f r) < length (f s)) → better f r (option_or o p) ≡ option_or o (better f r p)
  gives_way r None p h = refl
  gives_way r (Some s) p h = let lt = h s refl in rw (lt-ltb (length (f r)) (length (f s)) lt) refl

  module _ (n : ℕ) (ds : List ℕ) (d : ℕ) where
    abbrev all : List ℕ
    all = ds ++ d ∷ []

    all-length : length all ≡ length ds + 1
    all-length = omega (arith, length-append {A = ℕ} ds (d ∷ []))

    own_length : (rows : List R) (s : R) → own_row g f rows n all ≡ Some s → length (f s) ≡ length ds + 1
    own_length rows s e =
        let passes = find_passes (λ r. (g r == n) && pointwise ◌==◌ (f r) all) rows s e in
        whole-length (f s) all (and_parts (g s == n) (pointwise ◌==◌ (f s) all) passes).1 ∙ all-length

    pub digit_more : (rows : List R) → in_force g f rows n all ≡ option_or (own_row g f rows n all) (in_force g f rows n ds)
    digit_more [] = refl
    digit_more (r ∷ rows) = elim (cases_Bool (g r == n)) [
      | inr other ↦ rw other (digit_more rows)
      | inl mine ↦ elim (cases_Bool (pointwise ◌==◌ (f r) all)) [
        | inl whole ↦
            let long : length (f r) ≡ length ds + 1 = whole-length (f r) all whole ∙ all-length in
            let front : begins (f r) all ≡ true = begins_more (f r) ds d ∙ or_right (begins (f r) ds) whole in
            rw (mine, whole, front) (stays r (in_force g f rows n all) (λ s e. no_longer rows r s long e))
        | inr part ↦ elim (cases_Bool (begins (f r) ds)) [
          | inl does ↦
              let front : begins (f r) all ≡ true = begins_more (f r) ds d ∙ rw does refl in
              let few = begins-length (f r) ds does in
              rw (mine, part, does, front) (rw (digit_more rows) (gives_way r (own_row g f rows n all) (in_force g f rows n ds) (λ s e. let long = own_length rows s e in omega arith)))
          | inr not ↦
              let front : begins (f r) all ≡ false = begins_more (f r) ds d ∙ rw (not, part) refl in
              rw (mine, part, not, front) (digit_more rows)
        ]
      ]
    ]
      where
        or_right : (b : Bool) {c : Bool} → c ≡ true → (b || c) ≡ true
        or_right true h = refl
        or_right false h = h

        no_longer : (rows : List R) (r s : R) → length (f r) ≡ length ds + 1 → in_force g f rows n all ≡ Some s → length (f s) ≤ length (f r)
        no_longer rows r s long e = let few = begins-length (f s) all (some_longest f (filter (λ t. g t == n) rows) all s e).front in let many = all-length in omega arith
