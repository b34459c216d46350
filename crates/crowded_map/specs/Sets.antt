-- What a set is seen as.
use Rattle.std.specs.Prelude.{ℕ, List}

-- its keys, and how many more need no memory
pub record Members (K : Type 0) : Type 0 where
  pub keys : List K
  pub room : ℕ

abbrev pub spare : {K : Type 0} → Members K → ℕ
spare s = s.room
