-- Fields that name rows, and a prefix that is new at a node.
use Rattle.std.specs.Prelude.{ℕ, ◌==◌, ◌||◌, not, nat_le, nat_lt, Bool, false, List, [], ◌∷◌, length, Result, Ok}
use Rattle.std.specs.List.{list_any, list_all, position}
use Rattle.std.specs.Cmp.Lexicographic.{pointwise}
use Rattle.net_rows.specs.declared.row.Link.{Link}
use Rattle.net_rows.specs.Sound.{is_end}
use Rattle.card_digits.specs.Attempts.{◌>>=◌}
use Rattle.table_fields.specs.Faults.{ok_or, refuse}
use Rattle.table_fields.specs.Fields.{RowText, place_of, name_at, prefix_at, names_at}
use Rattle.table_fields.specs.declared.fault.TableFault.{TableFault}
use Rattle.table_fields.specs.declared.fault.TableFault.TheVariants.{BadValue, UnknownName, Twice, TooMany, NotAtLink}
use Rattle.table_fields.specs.declared.place.Key.{Key}
use Rattle.table_fields.specs.declared.place.Key.TheVariants as key
use Rattle.table_fields.specs.declared.place.Place.{Place}
use Rattle.named_rows.specs.Each.{each}
use Rattle.named_rows.specs.Rows.{Taken, link_names}

-- the place, counted from 0, of the row of that name
abbrev pub named : List (List ℕ) → Place → List ℕ → Result ℕ TableFault
named names at name = ok_or (position (pointwise ◌==◌ name) names) (UnknownName at)

-- the node that a field names
unfoldable pub node_at : List (List ℕ) → RowText → Key → Result ℕ TableFault
node_at nodes row k = name_at row k >>= named nodes (place_of row k)

-- some item stands twice
abbrev pub is_twice : {X : Type 0} → (X → X → Bool) → List X → Bool
is_twice same [] = false
is_twice same (x ∷ xs) = list_any (λ y. same y x) xs || is_twice same xs

-- an entry of a list of names
abbrev pub named_entry : List (List ℕ) → Place → List ℕ → List ℕ → Result ℕ TableFault
named_entry names at done name = named names at name

-- the places of all these names
abbrev pub all_named : List (List ℕ) → Place → List (List ℕ) → Result (List ℕ) TableFault
all_named names at words = each (named_entry names at) [] words

-- the nodes that a field names, none twice
unfoldable pub nodes_at : List (List ℕ) → RowText → Key → Result (List ℕ) TableFault
nodes_at nodes row k = do
  names ← names_at row k
  found ← all_named nodes (place_of row k) names
  new ← refuse (is_twice ◌==◌ found) (Twice (place_of row k))
  Ok found

-- one to eight links of the node that a field names, none twice
unfoldable pub links_at : List Link → ℕ → RowText → Key → Result (List ℕ) TableFault
links_at links node row k = do
  names ← names_at row k
  few ← refuse ((length names == 0) || nat_lt 8 (length names)) (BadValue (place_of row k))
  found ← all_named (link_names links) (place_of row k) names
  there ← refuse (not (list_all (is_end links node) found)) (NotAtLink (place_of row k))
  new ← refuse (is_twice ◌==◌ found) (Twice (place_of row k))
  Ok found

-- a row's node, and its prefix, which is new at the node
unfoldable pub new_prefix_at : List (List ℕ) → (ℕ → Taken) → RowText → Result (ℕ × List ℕ) TableFault
new_prefix_at nodes taken row = do
  node ← node_at nodes row key.Node
  room ← refuse (nat_le 4096 (taken node).count) (TooMany row.table)
  prefix ← prefix_at row key.Prefix
  new ← refuse ((taken node).has prefix) (Twice (place_of row key.Prefix))
  Ok (node, prefix)
