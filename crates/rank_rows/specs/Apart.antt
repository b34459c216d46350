-- Rows that are found by their pairs.
use Rattle.std.specs.Prelude.{◌≡◌, ◌==◌, ◌&&◌, Bool, List, Option}
use Rattle.std.specs.Cmp.Lexicographic.{pointwise}
use Rattle.std.specs.Option.{option_map}
use Rattle.rank_rows.specs.declared.rank.Rank.{Rank}
use Rattle.rank_rows.specs.declared.pair.Pair.{Pair}
use Rattle.rank_rows.specs.declared.pair.Found.{Found}
use Rattle.rank_rows.specs.Ranks.{rank_of}

-- the same name and the same prefix
abbrev pub is_same_pair : Pair → Pair → Bool
is_same_pair p q = pointwise ◌==◌ p.node q.node && pointwise ◌==◌ p.prefix q.prefix

-- for each pair the rank is found that it has among the rows
abbrev pub AreFound : List Rank → (Pair → Option Found) → Type 0
AreFound rows found = (p : Pair) → option_map (λ (f : Found). f.rank) (found p) ≡ rank_of rows p.node p.prefix
