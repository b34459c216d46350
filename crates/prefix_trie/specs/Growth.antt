-- What stays while branches are made.
use Rattle.std.specs.Prelude.{◌≡◌, ℕ, ◌<◌, List, Some, length}
use Rattle.prefix_trie.specs.declared.branch.Branch.{Branch}
use Rattle.prefix_trie.specs.Walk.{behind, reach, place_of}

-- no two walks end at one branch, and each ends at the root or at a branch that is there
pub record IsTree (branches : List Branch) : Type 0 where
  pub single : (a b : List ℕ) (i : ℕ) → reach (behind branches) 0 a ≡ Some i → reach (behind branches) 0 b ≡ Some i → a ≡ b
  pub inside : (a : List ℕ) (i : ℕ) → reach (behind branches) 0 a ≡ Some i → 0 < length branches → i < length branches

-- walks lead on where they led, and to the same rows
pub record IsSameTo (old new : List Branch) : Type 0 where
  pub tree : IsTree new
  pub walks : (a : List ℕ) (i : ℕ) → reach (behind old) 0 a ≡ Some i → reach (behind new) 0 a ≡ Some i
  pub places : (a : List ℕ) → place_of new a ≡ place_of old a
