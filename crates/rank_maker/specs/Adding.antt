-- Ranks of a class that are added.
use Rattle.std.specs.Prelude.{◌≡◌, ℕ, List, ◌++◌, length}
use Rattle.rank_rows.specs.declared.rank.Rank.{Rank}
use Rattle.rank_rows.specs.Runs.{AreOf}

-- so many rows of the class stand behind the others
pub record AddsOf (class : List ℕ) (count : ℕ) (old new : List Rank) : Type 0 where
  pub more : List Rank
  pub whole : new ≡ old ++ more
  pub many : length more ≡ count
  pub class_is : AreOf more class
