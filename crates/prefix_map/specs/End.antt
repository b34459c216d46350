-- Where walks end.
use Rattle.std.specs.Prelude.{◌≡◌, ℕ, ◌<◌, List, Option, None, Some, length}
use Rattle.prefix_map.specs.declared.node.Node.{Node}
use Rattle.prefix_map.specs.declared.node.End.{End}
use Rattle.prefix_map.specs.declared.node.End.TheVariants.{There, Free, Empty}
use Rattle.prefix_map.specs.Walk.{digit_at, reach, pairs, prefix_at, next}

-- the walk comes to a place from which no step leads on
pub record IsFree (next : ℕ → ℕ → Option ℕ) (prefix : List ℕ) (at digit : ℕ) : Type 0 where
  pub steps : ℕ
  pub to : reach next prefix steps ≡ Some at
  pub by : digit ≡ digit_at prefix steps
  pub none : next at digit ≡ None

module _ {V : Type 0} where
  -- no place has the prefix
  abbrev pub IsAbsent : List (List ℕ × V) → List ℕ → Type 0
  IsAbsent entries prefix = (i : ℕ) → prefix_at entries i ≡ Some prefix → ⊥

  -- the walk along a prefix ends at the prefix, or where it may be added
  abbrev pub IsEnd : List (Node V) → List ℕ → End → Type 0
  IsEnd nodes prefix (There at) = prefix_at (pairs nodes) at ≡ Some prefix
  IsEnd nodes prefix (Free at digit) = (at < length nodes) × (digit < 10) × IsAbsent (pairs nodes) prefix × IsFree (next nodes) prefix at digit
  IsEnd nodes prefix Empty = length nodes ≡ 0
