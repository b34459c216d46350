-- What a map is seen as.
use Rattle.std.specs.Prelude.{ℕ, ◌==◌, List, Option}
use Rattle.std.specs.Map.{lookup}
use Rattle.std.specs.Cmp.Lexicographic.{pointwise}

-- prefixes with their values, and how many more need no memory
pub record Entries (V : Type 0) : Type 0 where
  pub entries : List (List ℕ × V)
  pub room : ℕ

module _ {V : Type 0} where
  abbrev pub spare : Entries V → ℕ
  spare m = m.room

  -- the value of a prefix
  abbrev pub value_of : List ℕ → List (List ℕ × V) → Option V
  value_of prefix entries = lookup (pointwise ◌==◌ prefix) entries
