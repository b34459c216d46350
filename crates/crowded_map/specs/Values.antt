-- What a map is seen as.
use Rattle.std.specs.Prelude.{ℕ, Bool, List, Option}
use Rattle.std.specs.Map.{lookup}
use Rattle.std.specs.Option.{option_or}

-- keys with their values, and how many more keys need no memory
pub record Entries (K X : Type 0) : Type 0 where
  pub entries : List (K × X)
  pub room : ℕ

abbrev pub spare : {K X : Type 0} → Entries K X → ℕ
spare m = m.room

-- the value of a key that passes, in the first list or else in the second
abbrev pub in_either : {K X : Type 0} → List (K × X) → List (K × X) → (K → Bool) → Option X
in_either near far test = option_or (lookup test near) (lookup test far)
