-- Rows that branches lead to.
use Rattle.std.proofs.Common.{◌≡◌, ℕ, suc, ◌+◌, ◌-◌, ◌≤◌, Bool, true, false, ◌==◌, List, [], ◌∷◌, ◌++◌, length, Option, Some, None, refl, sym, ap, ◌∙◌, inl, inr, arith}
use Rattle.std.specs.Prelude.{option_and_then, slice_get, is_some}
use Rattle.std.specs.List.{find, position_from, AllByRecursion}
use Rattle.std.specs.Option.{option_or}
use Rattle.std.specs.Ordering.{nat_cmp, is_lt}
use Rattle.std.specs.Cmp.Lexicographic.{slice_cmp, pointwise, same_text}
use Rattle.std.proofs.lemmas.Bool.{cases_Bool, false≢true, eqb-true}
use Rattle.std.proofs.lemmas.Option.{same_Some}
use Rattle.std.proofs.lemmas.List.Folds.{find-append}
use Rattle.std.proofs.lemmas.List.Sums.{fold-append}
use Rattle.card_digits.specs.Digits.{IsPrefix}
use Rattle.prefix_trie.specs.declared.branch.Branch.{Branch}
use Rattle.prefix_trie.specs.Walk.{behind, row_at, reach, place_of}
use Rattle.prefix_trie.specs.Growth.{IsSameTo}
use Rattle.prefix_trie.specs.Pairs.{prefix_of, is_of, pair_of, inserted, in_order}
use Rattle.prefix_trie.specs.Index.{IsIndexed}
use Rattle.prefix_trie.proofs.Reaching.{reach_same}
use Rattle.prefix_trie.proofs.Longest.{text_itself}

pub found_at : {R : Type 0} (t : R → Bool) (i : ℕ) (rows : List R) (k : ℕ) → position_from t i rows ≡ Some k → (i ≤ k) × (slice_get rows (k - i) ≡ find t rows)
found_at t i [] k h = absurd cc
found_at t i (r ∷ rows) k h = elim (cases_Bool (t r)) [
  | inl is ↦
      let same : i ≡ k = same_Some i k (rw is at h) in
      let here : k - i ≡ 0 = omega arith in
      (omega arith, rw (here, is) refl)
  | inr no' ↦
      let later = found_at t (i + 1) rows k (rw no' at h) in
      let le : i + 1 ≤ k = later.0 in
      let step : k - i ≡ suc (k - (i + 1)) = omega arith in
      (omega arith, rw (step, no') later.1)
]

pub found_some : {R : Type 0} (t : R → Bool) (i : ℕ) (rows : List R) (k : ℕ) → position_from t i rows ≡ Some k → is_some (find t rows) ≡ true
found_some t i [] k h = absurd cc
found_some t i (r ∷ rows) k h = elim (cases_Bool (t r)) [
  | inl is ↦ rw is refl
  | inr no' ↦ rw no' (found_some t (i + 1) rows k (rw no' at h))
]

pub found_nowhere : {R : Type 0} (t : R → Bool) (i : ℕ) (rows : List R) → position_from t i rows ≡ None → find t rows ≡ None
found_nowhere t i [] h = refl
found_nowhere t i (r ∷ rows) h = elim (cases_Bool (t r)) [
  | inl is ↦ let bad : Some i ≡ None = rw is at h in absurd cc
  | inr no' ↦ rw no' (found_nowhere t (i + 1) rows (rw no' at h))
]

place_last : {R : Type 0} (t : R → Bool) (i : ℕ) (rows : List R) (y : R) → position_from t i rows ≡ None → t y ≡ true → position_from t i (rows ++ y ∷ []) ≡ Some (i + length rows)
place_last t i [] y h is = let e : i + 0 ≡ i = omega arith in rw (is, e) refl
place_last t i (r ∷ rows) y h is = elim (cases_Bool (t r)) [
  | inl does ↦ let bad : Some i ≡ None = rw does at h in absurd cc
  | inr no' ↦ let e : i + 1 + length rows ≡ i + suc (length rows) = omega arith in rw no' (place_last t (i + 1) rows y (rw no' at h) is ∙ ap (λ k. Some k) e)
]

place_kept : {R : Type 0} (t : R → Bool) (i : ℕ) (rows : List R) (y : R) → t y ≡ false → position_from t i (rows ++ y ∷ []) ≡ position_from t i rows
place_kept t i [] y no' = rw no' refl
place_kept t i (r ∷ rows) y no' = elim (cases_Bool (t r)) [
  | inl is ↦ rw is refl
  | inr not ↦ rw not (place_kept t (i + 1) rows y no')
]

option_or_none : {R : Type 0} (o : Option R) → option_or o None ≡ o
option_or_none None = refl
option_or_none (Some x) = refl

module _ {T : Type 0} where
  pub in_order_more : (rows : List (List ℕ × T)) (r : List ℕ × T) → in_order (rows ++ r ∷ []) ≡ inserted r (in_order rows)
  in_order_more rows r = fold-append (λ done pair. inserted pair done) [] rows (r ∷ [])

  forms_more : (r : List ℕ × T) (pairs : List (List ℕ × T)) → IsPrefix (prefix_of r) → AllByRecursion (λ p. IsPrefix (prefix_of p)) pairs → AllByRecursion (λ p. IsPrefix (prefix_of p)) (inserted r pairs)
  forms_more r [] one h = (one, tt)
  forms_more r (p ∷ ps) one h = elim (cases_Bool (is_lt (slice_cmp nat_cmp (prefix_of r) (prefix_of p)))) [
    | inl is ↦ rw is (one, h)
    | inr no' ↦ rw no' (h.0, forms_more r ps one h.1)
  ]

  -- another prefix finds what it found
  pub pair_kept : (a : List ℕ) (r : List ℕ × T) (pairs : List (List ℕ × T)) → is_of a r ≡ false → pair_of a (inserted r pairs) ≡ pair_of a pairs
  pair_kept a r [] no' = rw no' refl
  pair_kept a r (p ∷ ps) no' = elim (cases_Bool (is_lt (slice_cmp nat_cmp (prefix_of r) (prefix_of p)))) [
    | inl is ↦ rw (is, no') refl
    | inr not ↦ elim (cases_Bool (is_of a p)) [
      | inl here ↦ rw (not, here) refl
      | inr there ↦ rw (not, there) (pair_kept a r ps no')
    ]
  ]

  -- the new prefix finds its pair
  pub pair_new : (r : List ℕ × T) (a : List ℕ) (pairs : List (List ℕ × T)) → is_of a r ≡ true → pair_of a pairs ≡ None → pair_of a (inserted r pairs) ≡ Some r
  pair_new r a [] is h = rw is refl
  pair_new r a (p ∷ ps) is h = elim (cases_Bool (is_lt (slice_cmp nat_cmp (prefix_of r) (prefix_of p)))) [
    | inl lt ↦ rw (lt, is) refl
    | inr not ↦ elim (cases_Bool (is_of a p)) [
      | inl here ↦ let bad : Some p ≡ None = rw here at h in absurd cc
      | inr there ↦ rw (not, there) (pair_new r a ps is (rw there at h))
    ]
  ]

  pub indexed_same : (rows : List (List ℕ × T)) (old new : List Branch) → IsIndexed rows old → IsSameTo old new → IsIndexed rows new
  indexed_same rows old new h s = record { tree = s.tree; first = λ a. s.places a ∙ h.first a; same = h.same; forms = h.forms }

  pub indexed_none : IsIndexed {T = T} [] []
  indexed_none = record {
    tree = record {
      single = λ a b i x y. none_single a b i x y;
      inside = λ a i x some. absurd (omega arith);
    };
    first = none_place;
    same = λ a. refl;
    forms = tt;
  }
    where
      none_single : (a b : List ℕ) (i : ℕ) → reach (behind []) 0 a ≡ Some i → reach (behind []) 0 b ≡ Some i → a ≡ b
      none_single [] [] i x y = refl
      none_single [] (e ∷ b) i x y = absurd cc
      none_single (d ∷ a) b i x y = absurd cc

      none_place : (a : List ℕ) → place_of [] a ≡ None
      none_place [] = refl
      none_place (d ∷ a) = refl

  pub is_present : (rows : List (List ℕ × T)) (bs : List Branch) (p : List ℕ) (at k : ℕ) → IsIndexed rows bs → reach (behind bs) 0 p ≡ Some at → row_at bs at ≡ Some k → is_some (pair_of p (in_order rows)) ≡ true
  is_present rows bs p at k h to row =
      let place : place_of bs p ≡ Some k = rw to row in
      rw (h.same p) (found_some (is_of p) 0 rows k (sym (h.first p) ∙ place))

  pub is_absent : (rows : List (List ℕ × T)) (bs : List Branch) (p : List ℕ) (at : ℕ) → IsIndexed rows bs → reach (behind bs) 0 p ≡ Some at → row_at bs at ≡ None → pair_of p (in_order rows) ≡ None
  is_absent rows bs p at h to row =
      let place : place_of bs p ≡ None = rw to row in
      h.same p ∙ found_nowhere (is_of p) 0 rows (sym (h.first p) ∙ place)

  module _ (rows : List (List ℕ × T)) (old new : List Branch) (p : List ℕ) (v : T) (at : ℕ) (h : IsIndexed rows old) (to : reach (behind old) 0 p ≡ Some at) (free : row_at old at ≡ None)
      (nexts : (i d : ℕ) → behind new i d ≡ behind old i d) (now : row_at new at ≡ Some (length rows)) (others : (i : ℕ) → (i == at) ≡ false → row_at new i ≡ row_at old i) (len : length new ≡ length old) (form : IsPrefix p) where
    walks : (a : List ℕ) → reach (behind new) 0 a ≡ reach (behind old) 0 a
    walks a = reach_same (behind old) (behind new) nexts 0 a

    absent : position_from (is_of p) 0 rows ≡ None
    absent = sym (h.first p) ∙ rw to free

    row_kept : (a : List ℕ) (o : Option ℕ) → (a ≡ p → ⊥) → reach (behind old) 0 a ≡ o → option_and_then (row_at new) o ≡ option_and_then (row_at old) o
    row_kept a None other e = refl
    row_kept a (Some i) other e = elim (cases_Bool (i == at)) [
      | inl is ↦ absurd (other (h.tree.single a p at (rw (eqb-true i at is) at e) to))
      | inr no' ↦ others i no'
    ]

    first_new : (a : List ℕ) → place_of new a ≡ position_from (is_of a) 0 (rows ++ (p, v) ∷ [])
    first_new a = elim (cases_Bool (pointwise ◌==◌ p a)) [
      | inl is ↦
          let text : p ≡ a = same_text p a (sym is) in
          let there : place_of new p ≡ Some (length rows) = rw (walks p, to) now in
          let last : position_from (is_of p) 0 (rows ++ (p, v) ∷ []) ≡ Some (0 + length rows) = place_last (is_of p) 0 rows (p, v) absent (text_itself p) in
          let e : 0 + length rows ≡ length rows = omega arith in
          rw (← text) (there ∙ ap (λ k. Some k) (sym e) ∙ sym last)
      | inr no' ↦
          let other : (a ≡ p → ⊥) = λ e. false≢true (sym no' ∙ rw e (text_itself p)) in
          ap (option_and_then (row_at new)) (walks a) ∙ row_kept a (reach (behind old) 0 a) other refl ∙ h.first a ∙ sym (place_kept (is_of a) 0 rows (p, v) no')
    ]

    same_new : (a : List ℕ) → pair_of a (in_order (rows ++ (p, v) ∷ [])) ≡ pair_of a (rows ++ (p, v) ∷ [])
    same_new a = ap (pair_of a) (in_order_more rows (p, v)) ∙ elim (cases_Bool (pointwise ◌==◌ p a)) [
      | inl is ↦
          let text : p ≡ a = same_text p a (sym is) in
          let none : pair_of a rows ≡ None = found_nowhere (is_of a) 0 rows (rw text at absent) in
          pair_new (p, v) a (in_order rows) is (h.same a ∙ none) ∙ sym (find-append (is_of a) rows ((p, v) ∷ []) ∙ rw (none, is) refl)
      | inr no' ↦
          pair_kept a (p, v) (in_order rows) no' ∙ h.same a ∙ sym (find-append (is_of a) rows ((p, v) ∷ []) ∙ rw no' (option_or_none (pair_of a rows)))
    ]

    pub indexed_more : IsIndexed (rows ++ (p, v) ∷ []) new
    indexed_more = record {
      tree = record {
        single = λ a b i x y. h.tree.single a b i (sym (walks a) ∙ x) (sym (walks b) ∙ y);
        inside = λ a i x some. rw len (h.tree.inside a i (sym (walks a) ∙ x) (rw len at some));
      };
      first = first_new;
      same = same_new;
      forms = rw (in_order_more rows (p, v)) (forms_more (p, v) (in_order rows) form h.forms);
    }

  present_by : (rows : List (List ℕ × T)) (bs : List Branch) (p : List ℕ) (at : ℕ) (o : Option ℕ) → IsIndexed rows bs → reach (behind bs) 0 p ≡ Some at → row_at bs at ≡ o → is_some o ≡ true → is_some (pair_of p (in_order rows)) ≡ true
  present_by rows bs p at None h to row is = absurd (false≢true is)
  present_by rows bs p at (Some k) h to row is = is_present rows bs p at k h to row

  pub present_at : (rows : List (List ℕ × T)) (bs : List Branch) (p : List ℕ) (at : ℕ) → IsIndexed rows bs → reach (behind bs) 0 p ≡ Some at → is_some (row_at bs at) ≡ true → is_some (pair_of p (in_order rows)) ≡ true
  present_at rows bs p at h to is = present_by rows bs p at (row_at bs at) h to refl is

pub none_there : {R : Type 0} (o : Option R) → is_some o ≡ false → o ≡ None
none_there None h = refl
none_there (Some x) h = absurd (false≢true (sym h))
