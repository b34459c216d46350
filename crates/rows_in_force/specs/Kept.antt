-- What is kept while classes are entered.
use Rattle.std.specs.Prelude.{◌≡◌, ℕ, ◌<◌, ◌≤◌, List, [], ◌∷◌, length, Option, None, IfSome}
use Rattle.rows_in_force.specs.InForce.{AreKnown}
use Rattle.rows_in_force.specs.Own.{IsChained}

-- no row
abbrev pub nowhere : Option ℕ
nowhere = None

-- a place that is there is that of one of so many rows
abbrev pub IsWithin : ℕ → Option ℕ → Type 0
IsWithin count place = IfSome place (λ i. i < count)

-- so is each of these
abbrev pub AreWithin : ℕ → List (Option ℕ) → Type 0
AreWithin count [] = Unit {0}
AreWithin count (p ∷ ps) = IsWithin count p × AreWithin count ps

-- and each of those of all fronts
abbrev pub AreAllWithin : ℕ → List (List (Option ℕ)) → Type 0
AreAllWithin count [] = Unit {0}
AreAllWithin count (ps ∷ fronts) = AreWithin count ps × AreAllWithin count fronts

-- one front for no digits, and one for each of twelve
pub record AreFronts (slots : List ℕ) (places : List (List (Option ℕ))) : Type 0 where
  pub slots_count : length slots ≡ 13
  pub places_count : length places ≡ 13

module _ {R : Type 0} (node_of : R → ℕ) (prefix_of : R → List ℕ) where
  pub record IsKept (rows : List R) (class : List ℕ) (last : List (List ℕ × ℕ)) (before : List (Option ℕ)) (slots : List ℕ) (places : List (List (Option ℕ))) : Type 0 where
    pub chained : IsChained prefix_of rows last before
    pub few : length class ≤ 12
    pub fronts : AreFronts slots places
    pub known : AreKnown node_of prefix_of rows class (length class) slots places
    pub within : AreAllWithin (length rows) places
