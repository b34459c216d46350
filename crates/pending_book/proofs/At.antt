-- Lists by their places.
use Rattle.std.proofs.Common.{◌≡◌, ◌⊎◌, inl, inr, ℕ, suc, zero, ◌<◌, List, [], ◌∷◌, ◌++◌, length, map, get_or, Some, refl, ap, arith, slice_get}

-- a place of a list with one more at its end
pub more_at : {X : Type 0} (xs : List X) (x : X) (k : ℕ) (y : X) → slice_get (xs ++ x ∷ []) k ≡ Some y → (slice_get xs k ≡ Some y) ⊎ ((k ≡ length xs) × (y ≡ x))
more_at [] x zero y e = inr (refl, cc)
more_at [] x (suc k) y e = absurd (cc)
more_at (a ∷ xs) x zero y e = inl e
more_at (a ∷ xs) x (suc k) y e = elim (more_at xs x k y e) [
  | inl f ↦ inl f
  | inr p ↦ inr (ap (λ n. suc n) p.0, p.1)
]

pub left_at : {X : Type 0} (xs : List X) (x : X) (k : ℕ) (y : X) → slice_get xs k ≡ Some y → slice_get (xs ++ x ∷ []) k ≡ Some y
left_at [] x k y e = absurd (cc)
left_at (a ∷ xs) x zero y e = e
left_at (a ∷ xs) x (suc k) y e = left_at xs x k y e

pub last_at : {X : Type 0} (xs : List X) (x : X) → slice_get (xs ++ x ∷ []) (length xs) ≡ Some x
last_at [] x = refl
last_at (a ∷ xs) x = last_at xs x

pub mapped_at : {X : Type 0} (f : X → X) (xs : List X) (k : ℕ) (y : X) → slice_get (map f xs) k ≡ Some y → (x : X) × (slice_get xs k ≡ Some x) × (y ≡ f x)
mapped_at f [] k y e = absurd (cc)
mapped_at f (a ∷ xs) zero y e = (a, refl, cc)
mapped_at f (a ∷ xs) (suc k) y e = mapped_at f xs k y e

pub at_mapped : {X : Type 0} (f : X → X) (xs : List X) (k : ℕ) (x : X) → slice_get xs k ≡ Some x → slice_get (map f xs) k ≡ Some (f x)
at_mapped f [] k x e = absurd (cc)
at_mapped f (a ∷ xs) zero x e = (let is : a ≡ x = cc in ap (λ z. Some (f z)) is)
at_mapped f (a ∷ xs) (suc k) x e = at_mapped f xs k x e

pub within : {X : Type 0} (xs : List X) (k : ℕ) (x : X) → slice_get xs k ≡ Some x → k < length xs
within [] k x e = absurd (cc)
within (a ∷ xs) zero x e = omega arith
within (a ∷ xs) (suc k) x e = let h = within xs k x e in omega (arith, h)

pub got_at : {X : Type 0} (xs : List X) (k : ℕ) (x d : X) → slice_get xs k ≡ Some x → get_or xs k d ≡ x
got_at [] k x d e = absurd (cc)
got_at (a ∷ xs) zero x d e = cc
got_at (a ∷ xs) (suc k) x d e = got_at xs k x d e

pub at_got : {X : Type 0} (xs : List X) (k : ℕ) (d : X) → k < length xs → slice_get xs k ≡ Some (get_or xs k d)
at_got [] k d lt = absurd (omega arith)
at_got (a ∷ xs) zero d lt = refl
at_got (a ∷ xs) (suc k) d lt = at_got xs k d (omega arith)

-- the element at a place, as a function changes it
pub mapped_get : {X : Type 0} (f : X → X) (xs : List X) (k : ℕ) (d e : X) → k < length xs → get_or (map f xs) k e ≡ f (get_or xs k d)
mapped_get f [] k d e lt = absurd (omega arith)
mapped_get f (a ∷ xs) zero d e lt = refl
mapped_get f (a ∷ xs) (suc k) d e lt = mapped_get f xs k d e (omega arith)
