-- Facts on each element, as far as a loop has come.
use Rattle.std.proofs.Common.{◌≡◌, inl, inr, ℕ, zero, suc, ◌<◌, ◌≤◌, ◌+◌, List, [], ◌∷◌, length, get_or, take, All, slice_get, Some, None, arith, refl, sym, ◌∙◌, subst}
use Rattle.std.proofs.lemmas.List.Elements.{All-more, All-same}
use Rattle.std.proofs.lemmas.List.{take_all}
use Rattle.std.proofs.lemmas.Option.{slice_get_read, slice_get_within, same_Some}
use Rattle.std.proofs.lemmas.Bool.{cases_lt}
use Rattle.network_law.specs.Traces.{IsIn}

pub all_step : {X : Type 0} (P : X → Type 0) (xs : List X) (i : ℕ) (x : X) → i < length xs → x ≡ get_or xs i x → P x → All P (take i xs) → All P (take (i + 1) xs)
all_step P xs i x within read here before = All-more P xs i x within before (subst P read here)

pub all_end : {X : Type 0} (P : X → Type 0) (xs : List X) (n : ℕ) → length xs ≤ n → All P (take n xs) → All P xs
all_end P xs n past h = All-same P xs (take n xs) (sym (take_all n xs past)) h

pub each_step : {X : Type 0} (Q : ℕ → X → Type 0) (xs : List X) (i : ℕ) (x : X) → i < length xs → x ≡ get_or xs i x → Q i x
    → ((k : ℕ) (v : X) → k < i → slice_get xs k ≡ Some v → Q k v)
    → (k : ℕ) (v : X) → k < i + 1 → slice_get xs k ≡ Some v → Q k v
each_step {X} Q xs i x within read here before k v low at =
    elim (cases_lt k i) [
      | inl lt ↦ before k v lt at
      | inr ge ↦
          let same : k ≡ i = omega arith in
          let found : slice_get xs i ≡ Some x = slice_get_read xs (length xs) i x refl within read in
          let there : slice_get xs i ≡ Some v = rw (← same) at in
          let e : x ≡ v = same_Some x v (sym found ∙ there) in
          let F : ℕ → Type 0 = λ n. Q n v in
          subst F (sym same) (subst (Q i) e here)
    ]

pub each_end : {X : Type 0} (Q : ℕ → X → Type 0) (xs : List X) (n : ℕ) → length xs ≤ n
    → ((k : ℕ) (v : X) → k < n → slice_get xs k ≡ Some v → Q k v)
    → (k : ℕ) (v : X) → slice_get xs k ≡ Some v → Q k v
each_end Q xs n past h k v at =
    let within : k < length xs = slice_get_within xs k v at in
    h k v (omega arith) at

-- what is read at a place is there
pub is_read : {X : Type 0} (xs : List X) (i : ℕ) (x : X) → i < length xs → x ≡ get_or xs i x → slice_get xs i ≡ Some x
is_read xs i x within read = slice_get_read xs (length xs) i x refl within read

pub in_at : {X : Type 0} (xs : List X) (i : ℕ) (x : X) → slice_get xs i ≡ Some x → IsIn x xs
in_at [] i x at = absurd (no at)
  where
    no : None ≡ Some x → ⊥
    no p = cc
in_at (y ∷ xs) zero x at = inl (same_Some y x at)
in_at (y ∷ xs) (suc i) x at = inr (in_at xs i x at)
