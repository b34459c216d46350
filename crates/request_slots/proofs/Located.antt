-- What stands at the places that pass, in a list.
use Rattle.std.proofs.Common.{◌≡◌, inl, inr, ℕ, suc, ◌+◌, Bool, List, [], ◌∷◌, length, map, filter_map, Option, Some, refl, sym, ap, ◌∙◌, add-zero, arith, slice_get}
use Rattle.std.specs.Prelude.{filter}
use Rattle.std.specs.List.{range_with_len}
use Rattle.std.proofs.lemmas.Bool.{cases_Bool}

-- the values at the places that pass are those of the elements that pass
pub located : {X Y : Type 0} (test : ℕ → Bool) (value : ℕ → Option Y) (p : X → Bool) (f : X → Y) (xs : List X) (a : ℕ) → ((i : ℕ) (x : X) → slice_get xs i ≡ Some x → (test (a + i) ≡ p x) × (value (a + i) ≡ Some (f x)))
    → filter_map value (filter test (range_with_len a (length xs))) ≡ map f (filter p xs)
located test value p f [] a h = refl
located test value p f (x ∷ xs) a h =
    let here = h 0 x refl in
    let tested : test a ≡ p x = ap test (sym (add-zero a)) ∙ here.0 in
    let valued : value a ≡ Some (f x) = ap value (sym (add-zero a)) ∙ here.1 in
    let rest = located test value p f xs (a + 1) (λ i y e. let next : a + 1 + i ≡ a + suc i = omega arith in let r = h (suc i) y e in (ap test next ∙ r.0, ap value next ∙ r.1)) in
    elim (cases_Bool (p x)) [
      | inl t ↦ rw (tested, t, valued) (ap (λ ys. f x ∷ ys) rest)
      | inr n ↦ rw (tested, n) rest
    ]
