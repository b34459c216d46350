-- Prefixes that walks find.
use Rattle.std.specs.Prelude.{◌≡◌, ℕ, ◌<◌, List, Option, Some, length}
use Rattle.prefix_map.specs.Walk.{reach, prefix_at}

module _ {V : Type 0} where
  -- the walk along each prefix comes to its place, no prefix stands at two, and each step leads to one of the places
  pub record IsTree (entries : List (List ℕ × V)) (next : ℕ → ℕ → Option ℕ) : Type 0 where
    pub each : (i : ℕ) (p : List ℕ) → prefix_at entries i ≡ Some p → (steps : ℕ) × (reach next p steps ≡ Some i)
    pub single : (i j : ℕ) (p : List ℕ) → prefix_at entries i ≡ Some p → prefix_at entries j ≡ Some p → i ≡ j
    pub inside : (i d k : ℕ) → next i d ≡ Some k → k < length entries
