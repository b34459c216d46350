-- Where the nodes of a picture stand: in columns by their ranks, the least rank on the right, those without a rank on the left.
use Rattle.std.specs.Prelude.{ℕ, ◌+◌, ◌-◌, ◌*◌, ◌%◌, ◌==◌, ◌≤◌, ◌<◌, ◌≡◌, List, [], ◌∷◌, ◌⊎◌, slice_get, Some, map, fold, length, take, max, Option, is_none, nat_lt, if◌then◌else◌, count_by}
use Rattle.std.specs.Ordering.{nat_cmp}
use Rattle.std.specs.List.{flat_map, list_any}
use Rattle.std.specs.Option.{option_to_list, option_map_or}
use Rattle.std.specs.BTreeSet.{insert_key}
use Rattle.picture_text.specs.declared.parts.Corner.{Corner}
use Rattle.picture_text.specs.declared.parts.Size.{Size}

-- the ranks of nodes, each once, in ascending order
abbrev pub each_rank : List (Option ℕ) → List ℕ
each_rank ranks = fold (insert_key nat_cmp) [] (flat_map option_to_list ranks)

-- how many ranks are less, where the node has a rank, and otherwise how many there are
abbrev pub from_right : List ℕ → Option ℕ → ℕ
from_right each rank = option_map_or (λ r. count_by (λ k. nat_lt k r) each) rank (length each)

-- the greatest of these
abbrev pub last_column : List (Option ℕ) → ℕ
last_column ranks = if list_any is_none ranks then length (each_rank ranks) else length (each_rank ranks) - 1

-- the column of each node, from the left
abbrev pub columns : List (Option ℕ) → List ℕ
columns ranks = map (λ rank. last_column ranks - from_right (each_rank ranks) rank) ranks

-- how many nodes stand in a column
abbrev pub column_height : List ℕ → ℕ → ℕ
column_height all column = count_by (λ c. c == column) all

-- and in the tallest
abbrev pub tallest : List ℕ → ℕ
tallest all = fold (λ most c. max most (column_height all c)) 0 all

-- 250 pixels for a column, and 80 for a node; a column stands in the middle, every second one 40 pixels lower
abbrev pub corner_at : List ℕ → ℕ → ℕ → Corner
corner_at all n column = record {
  left = 40 + 250 * column;
  top = 70 + 40 * (tallest all - column_height all column) + 40 * (column % 2) + 80 * column_height (take n all) column;
}

-- each node's corner, counted from this place on
abbrev pub corners_from : List ℕ → ℕ → List ℕ → List Corner
corners_from all n [] = []
corners_from all n (c ∷ cs) = corner_at all n c ∷ corners_from all (n + 1) cs

abbrev pub corners_in : List ℕ → List Corner
corners_in all = corners_from all 0 all

abbrev pub node_corners : List (Option ℕ) → List Corner
node_corners ranks = corners_in (columns ranks)

abbrev pub picture_size : List (Option ℕ) → Size
picture_size ranks = record { width = 250 + 250 * last_column ranks; height = 120 + 80 * tallest (columns ranks) }

-- boxes of 110 by 62 pixels don't meet
abbrev pub AreApart : Corner → Corner → Type 0
AreApart a b = (a.left + 110 ≤ b.left) ⊎ ((b.left + 110 ≤ a.left) ⊎ ((a.top + 62 ≤ b.top) ⊎ (b.top + 62 ≤ a.top)))

-- nor do those of any two nodes
abbrev pub AreAllApart : List Corner → Type 0
AreAllApart all = (i j : ℕ) (a b : Corner) → i < j → slice_get all i ≡ Some a → slice_get all j ≡ Some b → AreApart a b
