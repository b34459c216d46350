-- Rows of one prefix.
use Rattle.std.specs.Prelude.{◌≡◌, ℕ, zero, suc, ◌<◌, ◌≤◌, ◌==◌, ◌&&◌, Bool, false, List, [], ◌∷◌, length, Option, None, Some, slice_get, if◌then◌else◌}
use Rattle.std.specs.List.{find}
use Rattle.std.specs.Map.{lookup}
use Rattle.std.specs.Option.{option_map_or}
use Rattle.std.specs.Cmp.Lexicographic.{pointwise}

-- the greatest number below n that passes
abbrev pub last_below : (ℕ → Bool) → ℕ → Option ℕ
last_below test zero = None
last_below test (suc n) = if test n then Some n else last_below test n

module _ {R : Type 0} (prefix_of : R → List ℕ) where
  -- the row at this place has the prefix
  abbrev pub is_at : List R → List ℕ → ℕ → Bool
  is_at rows prefix place = option_map_or (λ r. pointwise ◌==◌ (prefix_of r) prefix) (slice_get rows place) false

  -- the last of the first n rows of each prefix, and for each of these rows the one before it
  pub record IsChainedTo (n : ℕ) (rows : List R) (last : List (List ℕ × ℕ)) (before : List (Option ℕ)) : Type 0 where
    pub last_of : (p : List ℕ) → lookup (λ q. pointwise ◌==◌ p q) last ≡ last_below (is_at rows p) n
    pub count : length before ≡ n
    pub before_of : (place : ℕ) (r : R) → place < n → slice_get rows place ≡ Some r → slice_get before place ≡ Some (last_below (is_at rows (prefix_of r)) place)
    pub some_digits : (place : ℕ) (r : R) → place < n → slice_get rows place ≡ Some r → 1 ≤ length (prefix_of r)

  abbrev pub IsChained : List R → List (List ℕ × ℕ) → List (Option ℕ) → Type 0
  IsChained rows last before = IsChainedTo (length rows) rows last before

-- the first of the node's rows with this very prefix
abbrev pub own_row : {R : Type 0} → (R → ℕ) → (R → List ℕ) → List R → ℕ → List ℕ → Option R
own_row node_of prefix_of rows n prefix = find (λ r. (node_of r == n) && pointwise ◌==◌ (prefix_of r) prefix) rows

-- so many places, one after the other
abbrev pub places_from : ℕ → ℕ → List (Option ℕ)
places_from place zero = []
places_from place (suc n) = Some place ∷ places_from (suc place) n
