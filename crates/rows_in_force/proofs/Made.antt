-- One row more in the chains.
use Rattle.std.proofs.Common.{◌≡◌, ℕ, zero, suc, ◌+◌, ◌<◌, ◌≤◌, ◌==◌, ◌⊎◌, cond, List, [], ◌∷◌, ◌++◌, length, length-append, Option, Some, refl, sym, ap, ◌∙◌, inl, inr, arith, add-one}
use Rattle.std.specs.Prelude.{slice_get}
use Rattle.std.specs.Map.{lookup}
use Rattle.std.specs.Cmp.Lexicographic.{pointwise}
use Rattle.std.proofs.lemmas.Bool.{cases_lt}
use Rattle.std.proofs.lemmas.Option.{same_Some}
use Rattle.std.specs.Cmp.{IsEquivalence}
use Rattle.std.specs.Cmp.Rules.{comparing}
use Rattle.std.proofs.Common.{Bool, true, false, ◌-◌, append-nil, append_assoc, rules, subst}
use Rattle.rows_in_force.specs.Own.{last_below, is_at, places_from, IsChainedTo}
use Rattle.rows_in_force.proofs.Chain.{there}

get_front : {A : Type 0} (xs : List A) (y : A) (i : ℕ) → i < length xs → slice_get (xs ++ y ∷ []) i ≡ slice_get xs i
get_front [] y i lt = absurd (omega arith)
get_front (x ∷ xs) y zero lt = refl
get_front (x ∷ xs) y (suc i) lt = get_front xs y i (omega arith)

get_last : {A : Type 0} (xs : List A) (y : A) → slice_get (xs ++ y ∷ []) (length xs) ≡ Some y
get_last [] y = refl
get_last (x ∷ xs) y = get_last xs y

module _ {R : Type 0} (f : R → List ℕ) (rows : List R) where
  pub chained_none : IsChainedTo f 0 rows [] []
  chained_none = record { last_of = λ p. refl; count = refl; before_of = λ place r lt is. absurd (omega arith); some_digits = λ place r lt is. absurd (omega arith) }

  -- a map with the same places for each prefix
  pub chained_same : (n : ℕ) (old new : List (List ℕ × ℕ)) (before : List (Option ℕ)) → ((q : List ℕ) → lookup (λ k. pointwise ◌==◌ q k) new ≡ lookup (λ k. pointwise ◌==◌ q k) old)
      → IsChainedTo f n rows old before → IsChainedTo f n rows new before
  chained_same n old new before same h = record { last_of = λ p. same p ∙ h.last_of p; count = h.count; before_of = h.before_of; some_digits = h.some_digits }

  pub chained_next : (n : ℕ) (r : R) (old new : List (List ℕ × ℕ)) (before : List (Option ℕ)) → IsChainedTo f n rows old before → slice_get rows n ≡ Some r → 1 ≤ length (f r)
      → ((q : List ℕ) → lookup (λ k. pointwise ◌==◌ q k) new ≡ cond (pointwise ◌==◌ (f r) q) (Some n) (lookup (λ k. pointwise ◌==◌ q k) old))
      → IsChainedTo f (n + 1) rows new (before ++ lookup (λ k. pointwise ◌==◌ (f r) k) old ∷ [])
  chained_next n r old new before h is some updated = record {
    last_of = λ p. updated p ∙ rw (add-one, is) (ap (λ o. cond (pointwise ◌==◌ (f r) p) (Some n) o) (h.last_of p));
    count = rw (length-append, h.count) refl;
    before_of = λ place s lt at. before_at place s (cases_lt place n) lt at;
    some_digits = λ place s lt at. digits_at place s (cases_lt place n) lt at;
  }
    where
      before_at : (place : ℕ) (s : R) → (place < n) ⊎ (n ≤ place) → place < n + 1 → slice_get rows place ≡ Some s
          → slice_get (before ++ lookup (λ k. pointwise ◌==◌ (f r) k) old ∷ []) place ≡ Some (last_below (is_at f rows (f s)) place)
      before_at place s (inl less) lt at = let long = h.count in get_front before (lookup (λ k. pointwise ◌==◌ (f r) k) old) place (omega arith) ∙ h.before_of place s less at
      before_at place s (inr more) lt at =
          let last : place ≡ n = omega arith in
          let same : r ≡ s = same_Some r s (sym is ∙ rw last at at) in
          let long : length before ≡ place = h.count ∙ sym last in
          rw (← long) (get_last before (lookup (λ k. pointwise ◌==◌ (f r) k) old)) ∙ ap Some (h.last_of (f r) ∙ rw (same, last) refl)

      digits_at : (place : ℕ) (s : R) → (place < n) ⊎ (n ≤ place) → place < n + 1 → slice_get rows place ≡ Some s → 1 ≤ length (f s)
      digits_at place s (inl less) lt at = h.some_digits place s less at
      digits_at place s (inr more) lt at =
          let last : place ≡ n = omega arith in
          let same : r ≡ s = same_Some r s (sym is ∙ rw last at at) in
          rw (← same) some

  pub chained_key : (n : ℕ) (r : R) (p : List ℕ) (old new : List (List ℕ × ℕ)) (before : List (Option ℕ)) → IsChainedTo f n rows old before → slice_get rows n ≡ Some r → p ≡ f r → 1 ≤ length p
      → ((q : List ℕ) → lookup (λ k. pointwise ◌==◌ q k) new ≡ cond (pointwise ◌==◌ p q) (Some n) (lookup (λ k. pointwise ◌==◌ q k) old))
      → IsChainedTo f (n + 1) rows new (before ++ lookup (λ k. pointwise ◌==◌ p k) old ∷ [])
  chained_key n r p old new before h is e some updated = rw e (chained_next n r old new before h is (rw e at some) (λ q. rw e at (updated q)))

  -- rows of one prefix that stand behind each other
  chained_more : (k n : ℕ) (p : List ℕ) (old : List (List ℕ × ℕ)) (before : List (Option ℕ)) → IsChainedTo f (n + 1) rows ((p, n) ∷ old) before → 1 ≤ length p → n + k < length rows
      → ((j : ℕ) (s : R) → n ≤ j → j ≤ n + k → slice_get rows j ≡ Some s → f s ≡ p) → IsChainedTo f (n + k + 1) rows ((p, n + k) ∷ old) (before ++ places_from n k)
  chained_more zero n p old before h some within same = let e : n + 0 ≡ n = omega arith in rw (e, append-nil) h
  chained_more (suc k) n p old before h some within same =
      let t = there rows (n + 1) (omega (arith, within)) in
      let is : f t.0 ≡ p = same (n + 1) t.0 (omega arith) (omega arith) t.1 in
      let put : (q : List ℕ) → lookup (λ x. pointwise ◌==◌ q x) ((p, n + 1) ∷ old) ≡ cond (pointwise ◌==◌ (f t.0) q) (Some (n + 1)) (lookup (λ x. pointwise ◌==◌ q x) ((p, n) ∷ old)) = λ q. rw is (over p q n (n + 1) (lookup (λ x. pointwise ◌==◌ q x) old)) in
      let next = chained_next (n + 1) t.0 ((p, n) ∷ old) ((p, n + 1) ∷ old) before h t.1 (rw is some) put in
      let own : lookup (λ x. pointwise ◌==◌ (f t.0) x) ((p, n) ∷ old) ≡ Some n = rw (is, alike.refl p) refl in
      let rest = chained_more k (n + 1) p old (before ++ Some n ∷ []) (rw own at next) some (omega (arith, within)) (λ j s from to at. same j s (omega (arith, from)) (omega (arith, to)) at) in
      let e : n + 1 + k ≡ n + suc k = omega arith in
      let one : n + 1 ≡ suc n = omega arith in
      rw (← append_assoc before (Some n ∷ []) (places_from (suc n) k), ← one, ← e) rest
    where
      alike : IsEquivalence (pointwise ◌==◌)
      alike = search (comparing, rules)

      over : (p q : List ℕ) (a b : ℕ) (o : Option ℕ) → cond (pointwise ◌==◌ q p) (Some b) o ≡ cond (pointwise ◌==◌ p q) (Some b) (cond (pointwise ◌==◌ q p) (Some a) o)
      over p q a b o = rw (alike.symm q p) (go (pointwise ◌==◌ p q))
        where
          go : (t : Bool) → cond t (Some b) o ≡ cond t (Some b) (cond t (Some a) o)
          go true = refl
          go false = refl

  pub chained_run : (n end : ℕ) (r : R) (p : List ℕ) (old new : List (List ℕ × ℕ)) (before : List (Option ℕ)) → IsChainedTo f n rows old before → n < end → end ≤ length rows → slice_get rows n ≡ Some r → p ≡ f r → 1 ≤ length p
      → ((k : ℕ) (r s : R) → n ≤ k → k < end → slice_get rows n ≡ Some r → slice_get rows k ≡ Some s → f s ≡ f r)
      → ((q : List ℕ) → lookup (λ k. pointwise ◌==◌ q k) new ≡ cond (pointwise ◌==◌ p q) (Some (end - 1)) (lookup (λ k. pointwise ◌==◌ q k) old))
      → IsChainedTo f end rows new (before ++ lookup (λ k. pointwise ◌==◌ p k) old ∷ places_from n (end - n - 1))
  chained_run n end r p old new before h from within is e some same updated =
      let k = end - n - 1 in
      let last : n + k ≡ end - 1 = omega (arith, from) in
      let whole : n + k + 1 ≡ end = omega (arith, from) in
      let own = lookup (λ x. pointwise ◌==◌ p x) old in
      let first : IsChainedTo f (n + 1) rows ((p, n) ∷ old) (before ++ own ∷ []) = rw e (chained_next n r old ((f r, n) ∷ old) before h is (rw e at some) (λ q. turned (f r) q n (lookup (λ x. pointwise ◌==◌ q x) old))) in
      let all = chained_more k n p old (before ++ own ∷ []) first some (omega (arith, from, within)) (λ j s low high at. same j r s low (omega (arith, from, high)) is at ∙ sym e) in
      let moved : (q : List ℕ) → lookup (λ x. pointwise ◌==◌ q x) new ≡ lookup (λ x. pointwise ◌==◌ q x) ((p, n + k) ∷ old) = λ q. updated q ∙ (ap (λ m. cond (pointwise ◌==◌ p q) (Some m) (lookup (λ x. pointwise ◌==◌ q x) old)) (sym last) ∙ sym (turned p q (n + k) (lookup (λ x. pointwise ◌==◌ q x) old))) in
      let done = chained_same (n + k + 1) ((p, n + k) ∷ old) new ((before ++ own ∷ []) ++ places_from n k) moved all in
      subst (λ (m : ℕ). IsChainedTo f m rows new (before ++ own ∷ places_from n k)) whole (rw (← append_assoc before (own ∷ []) (places_from n k)) done)
    where
      alike' : IsEquivalence (pointwise ◌==◌)
      alike' = search (comparing, rules)

      turned : (p q : List ℕ) (m : ℕ) (o : Option ℕ) → cond (pointwise ◌==◌ q p) (Some m) o ≡ cond (pointwise ◌==◌ p q) (Some m) o
      turned p q m o = ap (λ b. cond b (Some m) o) (alike'.symm q p)

-- what stands at one place is the same
pub same_row : {R : Type 0} (f : R → List ℕ) (rows : List R) (k n : ℕ) (s x : R) → k ≡ n → slice_get rows k ≡ Some s → slice_get rows n ≡ Some x → f x ≡ f s
same_row f rows k n s x is at here = ap f (same_Some x s (sym here ∙ (ap (slice_get rows) (sym is) ∙ at)))

-- a place more
pub places_more : (n k : ℕ) → places_from n k ++ Some (n + k) ∷ [] ≡ places_from n (suc k)
places_more n zero = let e : n + 0 ≡ n = omega arith in rw e refl
places_more n (suc k) = let e : n + suc k ≡ suc n + k = omega arith in rw e (ap (λ ps. Some n ∷ ps) (places_more (suc n) k))
