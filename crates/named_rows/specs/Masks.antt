-- Masks of the nodes that have a prefix.
use Rattle.std.specs.Prelude.{◌≡◌, ℕ, suc, ◌^◌, ◌==◌, not, Bool, List, [], ◌∷◌, unwrap_or, bit_and}
use Rattle.std.specs.List.{filter}
use Rattle.std.specs.Map.{keys_of}
use Rattle.std.specs.FinSet as set
use Rattle.prefix_map.specs.Values.{value_of}
use Rattle.named_rows.specs.Rows.{PrefixSet}

-- the mask of a prefix, or 0
abbrev pub mask_of : List ℕ → List (List ℕ × ℕ) → ℕ
mask_of prefix masks = unwrap_or (value_of prefix masks) 0

-- the mask has the bit of the node
abbrev pub has_node : ℕ → ℕ → Bool
has_node n mask = not (bit_and mask (2 ^ n) == 0)

-- the prefixes that a node has
abbrev pub prefixes_of : List (List ℕ × ℕ) → ℕ → PrefixSet
prefixes_of masks n = set.from_list (filter (λ p. has_node n (mask_of p masks)) (keys_of masks))

-- the prefixes of each node from the n-th on, as many nodes as there are counts
abbrev pub sets_from : List (List ℕ × ℕ) → ℕ → List ℕ → List PrefixSet
sets_from masks n [] = []
sets_from masks n (c ∷ cs) = prefixes_of masks n ∷ sets_from masks (suc n) cs

-- each count is that of the node's prefixes
abbrev pub AreCounted : List (List ℕ × ℕ) → ℕ → List ℕ → Type 0
AreCounted masks n [] = Unit {0}
AreCounted masks n (c ∷ cs) = (c ≡ set.len (prefixes_of masks n)) × AreCounted masks (suc n) cs
