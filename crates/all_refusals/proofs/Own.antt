-- The rows of just a class, and the place of the issuer of one.
use Rattle.std.proofs.Common.{◌≡◌, ℕ, suc, ◌+◌, ◌<◌, ◌≤◌, ◌==◌, true, false, cond, List, [], ◌∷◌, length, Option, Some, None, refl, sym, ◌∙◌, inl, inr, arith}
use Rattle.std.specs.Prelude.{slice_get, option_and_then}
use Rattle.std.specs.List.{filter, position_from}
use Rattle.std.specs.Cmp.Lexicographic.{pointwise}
use Rattle.std.proofs.lemmas.Bool.{cases_Bool, and_parts, false≢true, cases_lt, lt-ltb, le-ltb}
use Rattle.std.proofs.lemmas.Option.{same_Some}
use Rattle.std.proofs.lemmas.Cmp.{nat_list_eq_equiv}
use Rattle.card_digits.specs.Longest.{begins, better, longest}
use Rattle.card_digits.proofs.Classes.{begins-trans, some_longest}
use Rattle.rows_in_force.specs.InForce.{in_force}
use Rattle.rows_in_force.specs.Own.{own_row}
use Rattle.std.specs.Option.{option_map_or}
use Rattle.net_rows.specs.Network.{Network}
use Rattle.table_checker.specs.declared.refusal.Refusal.{Refusal}
use Rattle.all_refusals.specs.declared.row.RowRefusal.{RowRefusal}
use Rattle.all_refusals.specs.Rows.{Row, Adds}
use Rattle.all_refusals.specs.Found.{of_row}
use Rattle.all_refusals.proofs.Adding.{none_added}

begins_whole : (p ds : List ℕ) → pointwise ◌==◌ p ds ≡ true → begins p ds ≡ true
begins_whole [] ds h = refl
begins_whole (x ∷ p) [] h = absurd (false≢true h)
begins_whole (x ∷ p) (d ∷ ds) h = let (here, more) = and_parts (x == d) (pointwise ◌==◌ p ds) h in rw here (begins_whole p ds more)

whole_begins : (p ds : List ℕ) → begins p ds ≡ true → length ds ≤ length p → pointwise ◌==◌ p ds ≡ true
whole_begins [] [] h le = refl
whole_begins [] (d ∷ ds) h le = absurd (omega arith)
whole_begins (x ∷ p) [] h le = absurd (false≢true h)
whole_begins (x ∷ p) (d ∷ ds) h le = let (here, more) = and_parts (x == d) (begins p ds) h in rw here (whole_begins p ds more (omega arith))

begins_length : (p ds : List ℕ) → begins p ds ≡ true → length p ≤ length ds
begins_length [] ds h = omega arith
begins_length (x ∷ p) [] h = absurd (false≢true h)
begins_length (x ∷ p) (d ∷ ds) h = let more = begins_length p ds (and_parts (x == d) (begins p ds) h).1 in omega arith

whole_length : (p ds : List ℕ) → pointwise ◌==◌ p ds ≡ true → length p ≡ length ds
whole_length [] [] h = refl
whole_length [] (d ∷ ds) h = absurd (false≢true h)
whole_length (x ∷ p) [] h = absurd (false≢true h)
whole_length (x ∷ p) (d ∷ ds) h = let more = whole_length p ds (and_parts (x == d) (pointwise ◌==◌ p ds) h).1 in omega arith

module _ {R : Type 0} (f : R → List ℕ) (ds : List ℕ) where
  -- the row, where its prefix is all of the digits
  abbrev pub whole : Option R → Option R
  whole None = None
  whole (Some r) = cond (pointwise ◌==◌ (f r) ds) (Some r) None

  longest_length : (rows : List R) (s : R) → longest f rows ds ≡ Some s → length (f s) ≤ length ds
  longest_length rows s e = begins_length (f s) ds (some_longest f rows ds s e).front

  -- a row of all digits stays
  stays : (r : R) (o : Option R) → pointwise ◌==◌ (f r) ds ≡ true → ((s : R) → o ≡ Some s → length (f s) ≤ length ds) → better f r o ≡ Some r
  stays r None is few = refl
  stays r (Some s) is few = let le = few s refl in let long = whole_length (f r) ds is in rw (le-ltb (length (f r)) (length (f s)) (omega arith)) refl

  -- a row of a part of them changes nothing
  gives_way : (r : R) (o : Option R) → pointwise ◌==◌ (f r) ds ≡ false → begins (f r) ds ≡ true → whole o ≡ whole (better f r o)
  gives_way r None part does = rw part refl
  gives_way r (Some s) part does = elim (cases_lt (length (f r)) (length (f s))) [
    | inl lt ↦ rw (lt-ltb (length (f r)) (length (f s)) lt) refl
    | inr le ↦ rw (le-ltb (length (f r)) (length (f s)) le, part) (shorter le)
  ]
    where
      shorter : length (f s) ≤ length (f r) → whole (Some s) ≡ None
      shorter le = elim (cases_Bool (pointwise ◌==◌ (f s) ds)) [
        | inr not' ↦ rw not' refl
        | inl is ↦
            let long = whole_length (f s) ds is in
            let both : pointwise ◌==◌ (f r) ds ≡ true = whole_begins (f r) ds does (omega arith) in
            absurd (false≢true (sym part ∙ both))
      ]

  -- the node's row of just these digits is its row in force, where that is one of them
  pub own_whole : (g : R → ℕ) (n : ℕ) (rows : List R) → own_row g f rows n ds ≡ whole (in_force g f rows n ds)
  own_whole g n [] = refl
  own_whole g n (r ∷ rows) = elim (cases_Bool (g r == n)) [
    | inr other ↦ rw other (own_whole g n rows)
    | inl mine ↦ elim (cases_Bool (pointwise ◌==◌ (f r) ds)) [
      | inl is ↦
          let does : begins (f r) ds ≡ true = begins_whole (f r) ds is in
          let kept : better f r (in_force g f rows n ds) ≡ Some r = stays r (in_force g f rows n ds) is (λ s e. longest_length (filter (λ q. g q == n) rows) s e) in
          rw (mine, is, does, kept) (rw is refl)
      | inr part ↦ elim (cases_Bool (begins (f r) ds)) [
        | inl does ↦ rw (mine, part, does) (own_whole g n rows ∙ gives_way r (in_force g f rows n ds) part does)
        | inr not' ↦ rw (mine, part, not') (own_whole g n rows)
      ]
    ]
  ]

  -- the place of the first row with the longest row's prefix, which is that row
  abbrev IsPlaced : R → ℕ → List R → Type 0
  IsPlaced s i rows = (place : ℕ) × (position_from (λ r. pointwise ◌==◌ (f r) (f s)) i rows ≡ Some (i + place)) × (slice_get rows place ≡ Some s)

  here : (s : R) (i : ℕ) (rows : List R) → IsPlaced s i (s ∷ rows)
  here s i rows = (0, rw (nat_list_eq_equiv.refl (f s)) (ap_some (omega arith)), refl)
    where
      ap_some : i ≡ i + 0 → Some i ≡ Some (i + 0)
      ap_some e = rw (← e) refl

  later : (r s : R) (i : ℕ) (rows : List R) → pointwise ◌==◌ (f r) (f s) ≡ false → IsPlaced s (i + 1) rows → IsPlaced s i (r ∷ rows)
  later r s i rows not' (place, at, is) =
      let same : i + 1 + place ≡ i + suc place = omega arith in
      (suc place, rw (not', at, same) refl, is)

  placed : (rows : List R) (s : R) (i : ℕ) → longest f rows ds ≡ Some s → IsPlaced s i rows
  placed [] s i e = absurd cc
  placed (r ∷ rows) s i e = elim (cases_Bool (begins (f r) ds)) [
    | inr not' ↦
        let rest : longest f rows ds ≡ Some s = rw not' at e in
        let front = (some_longest f rows ds s rest).front in
        elim (cases_Bool (pointwise ◌==◌ (f r) (f s))) [
          | inl is ↦ absurd (false≢true (sym not' ∙ begins-trans (f r) (f s) ds (begins_whole (f r) (f s) is) front))
          | inr apart ↦ later r s i rows apart (placed rows s (i + 1) rest)
        ]
    | inl does ↦ with_row (λ j rest. placed rows s j rest) (longest f rows ds) refl (rw does at e)
  ]
    where
      with_row : ((j : ℕ) → longest f rows ds ≡ Some s → IsPlaced s j rows) → (o : Option R) → longest f rows ds ≡ o → better f r o ≡ Some s → IsPlaced s i (r ∷ rows)
      with_row ih None found is = let same : r ≡ s = same_Some r s is in rw same (here s i rows)
      with_row ih (Some q) found is = elim (cases_lt (length (f r)) (length (f q))) [
        | inl lt ↦
            let same : q ≡ s = same_Some q s (rw (lt-ltb (length (f r)) (length (f q)) lt) at is) in
            elim (cases_Bool (pointwise ◌==◌ (f r) (f s))) [
              | inl equal ↦ let long = whole_length (f r) (f s) equal in let less : length (f r) < length (f s) = rw (← same) lt in absurd (omega arith)
              | inr apart ↦ later r s i rows apart (ih (i + 1) (rw (← same) found))
            ]
        | inr le ↦ let same : r ≡ s = same_Some r s (rw (le-ltb (length (f r)) (length (f q)) le) at is) in rw same (here s i rows)
      ]

  pub longest_place : (rows : List R) (s : R) → longest f rows ds ≡ Some s → option_and_then (slice_get rows) (position_from (λ r. pointwise ◌==◌ (f r) (f s)) 0 rows) ≡ Some s
  longest_place rows s e =
      let found = placed rows s 0 e in
      let same : 0 + found.0 ≡ found.0 = omega arith in
      rw (found.1, same) found.2

-- the rows of just a class, added where they are there
module _ {R : Type 0} (g : R → ℕ) (f : R → List ℕ) (row_of : R → Row) (x : Refusal) (rows : List R) (n : ℕ) (ds : List ℕ) (t : Network) (found : List RowRefusal) where
  pub nothing_own : (o : Option R) → in_force g f rows n ds ≡ o → whole f ds o ≡ None → Adds t found found (option_map_or (λ r. of_row (row_of r) (Some x)) (own_row g f rows n ds) [])
  nothing_own o is none =
      let own : own_row g f rows n ds ≡ None = own_whole f ds g n rows ∙ (rw is none) in
      rw own (none_added t found)

  pub one_own : (r : R) (new : List RowRefusal) → in_force g f rows n ds ≡ Some r → pointwise ◌==◌ (f r) ds ≡ true → Adds t found new (of_row (row_of r) (Some x))
      → Adds t found new (option_map_or (λ r. of_row (row_of r) (Some x)) (own_row g f rows n ds) [])
  one_own r new is all adds =
      let own : own_row g f rows n ds ≡ Some r = own_whole f ds g n rows ∙ (rw is (rw all refl)) in
      rw own adds
