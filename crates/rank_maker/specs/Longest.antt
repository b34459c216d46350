-- Ranks by those of the ends of links.
use Rattle.std.specs.Prelude.{ℕ, ◌+◌, max, min, List, [], ◌∷◌, get_or, Option, Some, None}
use Rattle.card_digits.specs.Steps.{◌>>=◌}
use Rattle.net_rows.specs.Network.{Network, other_end}
use Rattle.rank_maker.specs.declared.walk.Mark.{Mark}
use Rattle.rank_maker.specs.declared.walk.Mark.TheVariants.{New, OnPath, Ranked}

abbrev pub rank_of_mark : Mark → Option ℕ
rank_of_mark New = None
rank_of_mark OnPath = None
rank_of_mark (Ranked rank) = Some rank

-- the rank of a node
abbrev pub known_rank : List Mark → ℕ → Option ℕ
known_rank marks node = rank_of_mark (get_or marks node New)

-- the greatest of a number and the ranks of the links' other ends, one more each and at most 65,535; none where an end has no rank
abbrev pub rank_past : Network → List Mark → ℕ → ℕ → List ℕ → Option ℕ
rank_past t marks node most [] = Some most
rank_past t marks node most (link ∷ links) = do
  rank ← known_rank marks (other_end t node link)
  rank_past t marks node (max most (min (rank + 1) 65535)) links
