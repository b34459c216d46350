-- What changed messages show.
use Rattle.std.proofs.Common.{◌≡◌, ℕ, List, [], ◌∷◌, Some, None, Bool, true, false, eqb, refl, ap, ◌∙◌, sym, filter}
use Rattle.std.proofs.lemmas.Bool.{lt-ltb, le-ltb, eq-eqb, ne_eqb, eqb-false, cases_lt, cases_eq, cases_Bool}
use Rattle.std.proofs.Common.{inl, inr, arith}
use Rattle.iso_message.specs.Finding.{find_element, put, without}
use Rattle.iso_message.specs.Fields.{Fields, get, set_element, remove_element}

find_put_same : (n : ℕ) (v : List ℕ) (es : List (ℕ × List ℕ)) → find_element n (put n v es) ≡ Some v
unfolding find_element put
find_put_same n v [] = let e = eq-eqb n n refl in rw e refl
find_put_same n v (e ∷ es) =
    elim (cases_lt e.0 n) [
      | inl lt ↦ rw (lt-ltb _ _ lt, ne_eqb e.0 n (λ p. omega arith)) (find_put_same n v es)
      | inr le ↦
          elim (cases_eq e.0 n) [
            | inl p ↦ rw (le-ltb _ _ le, eq-eqb e.0 n p, eq-eqb n n refl) refl
            | inr p ↦ rw (le-ltb _ _ le, ne_eqb e.0 n p, eq-eqb n n refl) refl
          ]
    ]

find_put_other : (n k : ℕ) (v : List ℕ) (es : List (ℕ × List ℕ)) → eqb k n ≡ false → find_element n (put k v es) ≡ find_element n es
unfolding find_element put
find_put_other n k v [] d = rw d refl
find_put_other n k v (e ∷ es) d =
    elim (cases_lt e.0 k) [
      | inl lt ↦
          elim (cases_eq e.0 n) [
            | inl p ↦ rw (lt-ltb _ _ lt, eq-eqb e.0 n p) refl
            | inr p ↦ rw (lt-ltb _ _ lt, ne_eqb e.0 n p) (find_put_other n k v es d)
          ]
      | inr le ↦
          elim (cases_eq e.0 k) [
            | inl p ↦ rw (le-ltb _ _ le, eq-eqb e.0 k p, d, ne_eqb e.0 n (λ q. eqb-false k n d (sym p ∙ q))) refl
            | inr p ↦ rw (le-ltb _ _ le, ne_eqb e.0 k p, d) refl
          ]
    ]

find_without_same : (n : ℕ) (es : List (ℕ × List ℕ)) → find_element n (without n es) ≡ None
unfolding find_element without
find_without_same n [] = refl
find_without_same n (e ∷ es) =
    elim (cases_eq e.0 n) [
      | inl p ↦ rw (eq-eqb e.0 n p) (find_without_same n es)
      | inr p ↦ rw (ne_eqb e.0 n p, ne_eqb e.0 n p) (find_without_same n es)
    ]

find_without_other : (n k : ℕ) (es : List (ℕ × List ℕ)) → eqb k n ≡ false → find_element n (without k es) ≡ find_element n es
unfolding find_element without
find_without_other n k [] d = refl
find_without_other n k (e ∷ es) d =
    elim (cases_eq e.0 k) [
      | inl p ↦ rw (eq-eqb e.0 k p, ne_eqb e.0 n (λ q. eqb-false k n d (sym p ∙ q))) (find_without_other n k es d)
      | inr p ↦
          elim (cases_eq e.0 n) [
            | inl q ↦ rw (ne_eqb e.0 k p, eq-eqb e.0 n q) refl
            | inr q ↦ rw (ne_eqb e.0 k p, ne_eqb e.0 n q) (find_without_other n k es d)
          ]
    ]

pub get_set_same : (m : Fields) (n : ℕ) (v : List ℕ) → get (set_element m n v) n ≡ Some v
unfolding get set_element
get_set_same m n v = find_put_same n v m.elements

pub get_set : (m : Fields) (k n : ℕ) (v : List ℕ) → eqb k n ≡ false → get (set_element m k v) n ≡ get m n
unfolding get set_element
get_set m k n v d = find_put_other n k v m.elements d

pub get_remove_same : (m : Fields) (n : ℕ) → get (remove_element m n) n ≡ None
unfolding get remove_element
get_remove_same m n = find_without_same n m.elements

pub get_remove : (m : Fields) (k n : ℕ) → eqb k n ≡ false → get (remove_element m k) n ≡ get m n
unfolding get remove_element
get_remove m k n d = find_without_other n k m.elements d

-- an element of a list that a test on numbers keeps
pub find_kept : (keeps : ℕ → Bool) (n : ℕ) (es : List (ℕ × List ℕ)) → keeps n ≡ true → find_element n (filter (λ e. keeps e.0) es) ≡ find_element n es
unfolding find_element
find_kept keeps n [] h = refl
find_kept keeps n (e ∷ es) h =
    elim (cases_eq e.0 n) [
      | inl p ↦ let here : keeps e.0 ≡ true = ap keeps p ∙ h in rw (here, eq-eqb e.0 n p) refl
      | inr p ↦
          elim (cases_Bool (keeps e.0)) [
            | inl t ↦ rw (t, ne_eqb e.0 n p) (find_kept keeps n es h)
            | inr f ↦ rw (f, ne_eqb e.0 n p) (find_kept keeps n es h)
          ]
    ]
