-- Tries of the places of rows, one for each node and one for the whole network.
use Rattle.std.specs.Prelude.{◌≡◌, ℕ, ◌+◌, Bool, ◌==◌, ◌&&◌, List, [], Option, None, Some, slice_get, unwrap_or}
use Rattle.std.specs.Option.{option_eq, option_map}
use Rattle.std.specs.Cmp.Lexicographic.{pointwise}
use Rattle.std.specs.List.{AllByRecursion, position_from}
use Rattle.card_digits.specs.Digits.{IsPrefix}
use Rattle.prefix_trie.specs.Pairs.{pair_of}
use Rattle.net_rows.specs.declared.prefixed.RowKey.{RowKey}

-- the first trie is that of the rows of the whole network
abbrev pub slot : Option ℕ → ℕ
slot None = 0
slot (Some n) = n + 1

-- pairs of a prefix and the place of a row
abbrev pub Places : Type 0
Places = List (List ℕ × ℕ)

abbrev pub places_at : List Places → Option ℕ → Places
places_at tries node = unwrap_or (slice_get tries (slot node)) []

module _ {R : Type 0} (node_of : R → Option ℕ) (prefix_of : R → List ℕ) where
  -- whether the row has that key
  abbrev pub is_of : RowKey → R → Bool
  is_of q r = option_eq ◌==◌ (node_of r) q.node && pointwise ◌==◌ (prefix_of r) q.prefix

  -- the tries have the first place of each key
  pub record IsIndexed (rows : List R) (tries : List Places) : Type 0 where
    pub first : (q : RowKey) → pair_of q.prefix (places_at tries q.node) ≡ option_map (λ i. (q.prefix, i)) (position_from (is_of q) 0 rows)
    pub prefixes : AllByRecursion (λ r. IsPrefix (prefix_of r)) rows
