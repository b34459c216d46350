-- Branches that lead to rows.
use Rattle.std.specs.Prelude.{◌≡◌, ℕ, List}
use Rattle.std.specs.List.{position_from, AllByRecursion}
use Rattle.card_digits.specs.Digits.{IsPrefix}
use Rattle.prefix_trie.specs.declared.branch.Branch.{Branch}
use Rattle.prefix_trie.specs.Walk.{place_of}
use Rattle.prefix_trie.specs.Growth.{IsTree}
use Rattle.prefix_trie.specs.Pairs.{prefix_of, is_of, pair_of, in_order}

-- digits lead to the place of the row that has them as its prefix
pub record IsIndexed {T : Type 0} (rows : List (List ℕ × T)) (branches : List Branch) : Type 0 where
  pub tree : IsTree branches
  pub first : (a : List ℕ) → place_of branches a ≡ position_from (is_of a) 0 rows
  pub same : (a : List ℕ) → pair_of a (in_order rows) ≡ pair_of a rows
  pub forms : AllByRecursion (λ r. IsPrefix (prefix_of r)) (in_order rows)
