-- What an index of places says of a key.
use Rattle.std.specs.Prelude.{◌≡◌, ℕ, zero, suc, Bool, true, false, cond, List, [], ◌∷◌, unwrap_or}
use Rattle.std.specs.Map.{lookup}
use Rattle.book_index.specs.declared.index.Place.{Place}
use Rattle.book_index.specs.declared.index.Place.TheVariants as places

-- what the entries say of the keys that pass a test
abbrev pub found : {K : Type 0} → (K → Bool) → List (K × Place) → Place
found test entries = unwrap_or (lookup test entries) places.Nowhere

-- with one place more
abbrev pub joined : Place → ℕ → Place
joined places.Nowhere i = places.At i
joined (places.At j) i = places.Several
joined places.Several i = places.Several

-- what is found of one key is changed so, and that of all others stays
abbrev pub ChangesPlace : {K : Type 0} → (K → K → Bool) → K → (Place → Place) → List (K × Place) → List (K × Place) → Type 0
ChangesPlace {K} eq key change old new = (k : K) → found (eq k) new ≡ cond (eq key k) (change (found (eq key) old)) (found (eq k) old)

-- no place passes, or this one alone; of several nothing is said
abbrev pub Tells : Place → (ℕ → Bool) → Type 0
Tells places.Nowhere has = (i : ℕ) → has i ≡ false
Tells (places.At i) has = (has i ≡ true) × ((j : ℕ) → has j ≡ true → j ≡ i)
Tells places.Several has = Unit {0}

-- whether there is an item at this place that passes
abbrev pub holds_at : {X : Type 0} → (X → Bool) → List X → ℕ → Bool
holds_at p [] i = false
holds_at p (x ∷ xs) zero = p x
holds_at p (x ∷ xs) (suc i) = holds_at p xs i
