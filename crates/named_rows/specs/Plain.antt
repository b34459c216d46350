-- What is found of names and prefixes without a row of the tree.
use Rattle.std.specs.Prelude.{◌≡◌, ℕ, nat_le, false, List, Some, Ok}
use Rattle.card_digits.specs.Reading.{name_of}
use Rattle.named_rows.specs.Rows.{PrefixSet, taken_in, IsTaken}
use Rattle.named_rows.specs.Reading.{named}
use Rattle.table_fields.specs.declared.place.Place.{Place}

-- the text is the name of the row at that place
pub record IsNamed (names : List (List ℕ)) (text : List ℕ) (i : ℕ) : Type 0 where
  pub name : List ℕ
  pub is_name : name_of text ≡ Some name
  pub found : (at : Place) → named names at name ≡ Ok i

-- the node has room for a row, and takes the prefix
pub record IsNewPrefix (node : ℕ) (prefix : List ℕ) (old new : List PrefixSet) : Type 0 where
  pub room : nat_le 4096 (taken_in old node).count ≡ false
  pub taken : IsTaken node prefix old new
