-- The own rows of a prefix are put over others from the last to the first.
use Rattle.std.proofs.Common.{◌≡◌, ℕ, ◌+◌, ◌<◌, ◌≤◌, ◌==◌, ◌&&◌, Bool, true, List, [], ◌∷◌, length, get_or, drop, Option, Some, None, refl, sym, ap, ◌∙◌, inl, inr, arith}
use Rattle.std.specs.Prelude.{slice_get, slice_set}
use Rattle.std.specs.List.{find}
use Rattle.std.specs.Option.{option_or, option_map_or}
use Rattle.std.specs.Cmp.Lexicographic.{pointwise}
use Rattle.std.proofs.Math.ListN.{length-set}
use Rattle.std.proofs.lemmas.Bool.{cases_Bool, and_parts, false≢true, eqb-true, eq-eqb}
use Rattle.std.proofs.lemmas.Option.{same_Some}
use Rattle.rows_in_force.specs.InForce.{row_at}
use Rattle.rows_in_force.specs.Own.{last_below, is_at, own_row, IsChained, IsChainedTo}
use Rattle.rows_in_force.proofs.KnownFronts.{at_place as got_at, set_here, set_there}
use Rattle.rows_in_force.specs.Kept.{AreWithin}
use Rattle.rows_in_force.proofs.Within.{place_set}
use Rattle.rows_in_force.proofs.Chain.{drop_at, last_less, last_passes, none_between, none_before}

same_text : (xs ys : List ℕ) → pointwise ◌==◌ xs ys ≡ true → xs ≡ ys
same_text [] [] h = refl
same_text [] (y ∷ ys) h = cc
same_text (x ∷ xs) [] h = cc
same_text (x ∷ xs) (y ∷ ys) h =
    let p = and_parts (x == y) (pointwise ◌==◌ xs ys) h in
    rw (eqb-true x y p.0, same_text xs ys p.1) refl

drop_all : {A : Type 0} (xs : List A) → drop (length xs) xs ≡ []
drop_all [] = refl
drop_all (x ∷ xs) = drop_all xs

module _ {R : Type 0} (g : R → ℕ) (f : R → List ℕ) (rows : List R) (p : List ℕ) (initial : List (Option ℕ)) where
  abbrev pub own : ℕ → R → Bool
  own n r = (g r == n) && pointwise ◌==◌ (f r) p

  -- the own rows from a bound on are put, and the next is the last before it
  pub record IsPut (next : Option ℕ) (places : List (Option ℕ)) : Type 0 where
    pub bound : ℕ
    pub within : bound ≤ length rows
    pub next_is : next ≡ last_below (is_at f rows p) bound
    pub many : length places ≡ 64
    pub rows_are : (n : ℕ) → n < 64 → row_at rows places n ≡ option_or (find (own n) (drop bound rows)) (row_at rows initial n)
    pub within_are : AreWithin (length rows) initial → AreWithin (length rows) places

  pub put_start : (next : Option ℕ) → length initial ≡ 64 → next ≡ last_below (is_at f rows p) (length rows) → IsPut next initial
  put_start next many e = record {
    bound = length rows;
    within = omega arith;
    next_is = e;
    many = many;
    rows_are = λ n lt. rw (drop_all rows) refl;
    within_are = λ within. within;
  }

  at_place : (place : ℕ) (r : R) → slice_get rows place ≡ Some r → is_at f rows p place ≡ true → f r ≡ p
  at_place place r is passes = same_text (f r) p (rw is at passes)

  pub put_next : (places : List (Option ℕ)) (place : ℕ) → IsPut (Some place) places → (place < length rows) × (is_at f rows p place ≡ true)
  put_next places place h =
      let less = last_less (is_at f rows p) h.bound place (sym h.next_is) in
      let le = h.within in
      (omega arith, last_passes (is_at f rows p) h.bound place (sym h.next_is))

  new_row : (places : List (Option ℕ)) (place : ℕ) (r : R) → IsPut (Some place) places → slice_get rows place ≡ Some r → (n : ℕ) → n < 64
      → row_at rows (slice_set places (g r) (Some place)) n ≡ option_or (find (own n) (drop place rows)) (row_at rows initial n)
  new_row places place r h is n lt =
      let passes = (put_next places place h).1 in
      let whole : pointwise ◌==◌ (f r) p ≡ true = rw is at passes in
      elim (cases_Bool (g r == n)) [
        | inl mine ↦
            let same : g r ≡ n = eqb-true (g r) n mine in
            let long = h.many in
            let got : slice_get (slice_set places (g r) (Some place)) n ≡ Some (Some place) = rw same (set_here places n (Some place) (omega arith)) in
            rw (got, drop_at rows place r is, mine, whole) is
        | inr other ↦
            let apart : g r ≡ n → ⊥ = λ e. false≢true (sym other ∙ eq-eqb (g r) n e) in
            rw (set_there places (g r) n (Some place) apart, drop_at rows place r is, other)
            (h.rows_are n lt ∙ ap (λ (o : Option R). option_or o (row_at rows initial n)) (sym (none_between g f rows n p h.bound place h.within (sym h.next_is))))
      ]

  pub put_step : (places : List (Option ℕ)) (place : ℕ) (r : R) (next : Option ℕ) → IsPut (Some place) places → slice_get rows place ≡ Some r → next ≡ last_below (is_at f rows (f r)) place
      → IsPut next (slice_set places (g r) (Some place))
  put_step places place r next h is e =
      let (less, passes) = put_next places place h in
      record {
        bound = place;
        within = omega arith;
        next_is = rw (at_place place r is passes) at e;
        many = rw length-set h.many;
        rows_are = new_row places place r h is;
        within_are = λ within. place_set (length rows) places (g r) (Some place) (h.within_are within) less;
      }

  pub put_end : (places : List (Option ℕ)) → IsPut None places → (n : ℕ) → n < 64 → row_at rows places n ≡ option_or (own_row g f rows n p) (row_at rows initial n)
  put_end places h n lt = h.rows_are n lt ∙ ap (λ (o : Option R). option_or o (row_at rows initial n)) (sym (none_before g f rows n p h.bound h.within (sym h.next_is)))

-- what stands at a row is the one before it with its prefix
pub before_is : {R : Type 0} (f : R → List ℕ) (rows : List R) (last : List (List ℕ × ℕ)) (before : List (Option ℕ)) (place : ℕ) (r : R) (next : Option ℕ) → IsChained f rows last before → place < length rows
    → slice_get rows place ≡ Some r → next ≡ get_or before place next → next ≡ last_below (is_at f rows (f r)) place
before_is f rows last before place r next h lt is at =
    let many = IsChainedTo.count h in
    let here : slice_get before place ≡ Some next = got_at before place next (omega arith) at in
    same_Some next (last_below (is_at f rows (f r)) place) (sym here ∙ IsChainedTo.before_of h place r lt is)

-- and so it comes earlier
pub smaller : (t : ℕ → Bool) (next : Option ℕ) (place : ℕ) → next ≡ last_below t place → option_map_or (λ i. i + 1) next 0 < place + 1
smaller t None place e = omega arith
smaller t (Some i) place e = let less = last_less t place i (sym e) in omega arith
