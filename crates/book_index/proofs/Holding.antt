-- Lists whose items that pass are known by their places.
use Rattle.std.proofs.Common.{◌≡◌, ℕ, zero, suc, ◌<◌, ◌≢◌, inl, inr, Bool, true, false, ◌&&◌, ◌||◌, List, [], ◌∷◌, ◌++◌, length, map, get_or, set, refl, ap, eqb, eq-eqb, arith}
use Rattle.std.specs.List.{list_any}
use Rattle.std.proofs.lemmas.Bool.{cases_Bool, cases_eq}
use Rattle.std.proofs.lemmas.Bool.Decides.{nat_tests}
use Rattle.book_index.specs.Found.{holds_at}

not_eqb : (x y : ℕ) → x ≢ y → eqb x y ≡ false
not_eqb x y ne = grind (arith, nat_tests, ne)

suc_eqb : (x y : ℕ) → eqb (suc x) (suc y) ≡ eqb x y
suc_eqb x y = elim (cases_eq x y) [
  | inl same ↦ rw (eq-eqb x y same, eq-eqb (suc x) (suc y) (ap suc same)) refl
  | inr other ↦ rw (not_eqb x y other, not_eqb (suc x) (suc y) (λ e. other (omega (arith, e)))) refl
]

pub holds_push : {X : Type 0} (p : X → Bool) (xs : List X) (x : X) (i : ℕ) → holds_at p (xs ++ x ∷ []) i ≡ (holds_at p xs i || (eqb i (length xs) && p x))
holds_push p [] x zero = refl
holds_push p [] x (suc i) = rw (not_eqb (suc i) 0 (λ e. omega (arith, e))) refl
holds_push p (y ∷ ys) x zero = rw (not_eqb 0 (suc (length ys)) (λ e. omega (arith, e))) (or_false (p y))
  where
    or_false : (b : Bool) → b ≡ (b || false)
    or_false true = refl
    or_false false = refl
holds_push p (y ∷ ys) x (suc i) = rw (suc_eqb i (length ys)) (holds_push p ys x i)

pub holds_within : {X : Type 0} (p : X → Bool) (xs : List X) (i : ℕ) → holds_at p xs i ≡ true → i < length xs
holds_within p [] i h = absurd (cc)
holds_within p (x ∷ xs) zero h = omega arith
holds_within p (x ∷ xs) (suc i) h = let r = holds_within p xs i h in omega arith

pub holds_item : {X : Type 0} (p : X → Bool) (xs : List X) (i : ℕ) (d : X) → i < length xs → holds_at p xs i ≡ p (get_or xs i d)
holds_item p [] i d less = absurd (omega arith)
holds_item p (x ∷ xs) zero d less = refl
holds_item p (x ∷ xs) (suc i) d less = holds_item p xs i d (omega arith)

-- nothing passes
pub none_any : {X : Type 0} (p : X → Bool) (xs : List X) → ((i : ℕ) → holds_at p xs i ≡ false) → list_any p xs ≡ false
none_any p [] h = refl
none_any p (x ∷ xs) h = rw (h 0) (none_any p xs (λ i. h (suc i)))

pub none_map : {X : Type 0} (p : X → Bool) (f : X → X) (xs : List X) → ((x : X) → p x ≡ false → f x ≡ x) → ((i : ℕ) → holds_at p xs i ≡ false) → map f xs ≡ xs
none_map p f [] same h = refl
none_map p f (x ∷ xs) same h = rw (same x (h 0), none_map p f xs same (λ i. h (suc i))) refl

-- one passes
pub one_any : {X : Type 0} (p : X → Bool) (xs : List X) (i : ℕ) → holds_at p xs i ≡ true → list_any p xs ≡ true
one_any p [] i h = absurd (cc)
one_any p (x ∷ xs) zero h = rw h refl
one_any p (x ∷ xs) (suc i) h = elim (cases_Bool (p x)) [
  | inl t ↦ rw t refl
  | inr f ↦ rw f (one_any p xs i h)
]

no_zero : (i : ℕ) → 0 ≡ suc i → ⊥
no_zero i e = omega arith

pub one_map : {X : Type 0} (p : X → Bool) (f : X → X) (xs : List X) (i : ℕ) (d : X) → ((x : X) → p x ≡ false → f x ≡ x) → ((j : ℕ) → holds_at p xs j ≡ true → j ≡ i) → map f xs ≡ set xs i (f (get_or xs i d))
one_map p f [] i d same h = refl
one_map p f (x ∷ xs) zero d same h = ap (λ ys. f x ∷ ys) (none_map p f xs same (λ j. not_true (holds_at p xs j) (λ t. let e : suc j ≡ 0 = h (suc j) t in omega arith)))
  where
    not_true : (b : Bool) → (b ≡ true → ⊥) → b ≡ false
    not_true true no_ = absurd (no_ refl)
    not_true false no_ = refl
one_map p f (x ∷ xs) (suc i) d same h = rw (head, one_map p f xs i d same (λ j t. let e : suc j ≡ suc i = h (suc j) t in omega arith)) refl
  where
    not_true : (b : Bool) → (b ≡ true → ⊥) → b ≡ false
    not_true true no_ = absurd (no_ refl)
    not_true false no_ = refl

    head : f x ≡ x
    head = same x (not_true (p x) (λ t. no_zero i (h 0 t)))
