-- What rows are known by, and what they have taken.
use Rattle.std.specs.Prelude.{◌≡◌, ℕ, ◌==◌, ◌<◌, ◌≤◌, Bool, false, List, map, length, slice_get, slice_set, unwrap_or}
use Rattle.std.specs.List.{list_any}
use Rattle.std.specs.Ordering.{nat_cmp}
use Rattle.std.specs.Cmp.Lexicographic.{pointwise, slice_cmp}
use Rattle.std.specs.FinSet as set
use Rattle.net_rows.specs.declared.row.Node.{Node}
use Rattle.net_rows.specs.declared.row.Link.{Link}

abbrev pub node_names : List Node → List (List ℕ)
node_names nodes = map (λ n. n.name) nodes

abbrev pub link_names : List Link → List (List ℕ)
link_names links = map (λ l. l.name) links

-- the word is one of these
abbrev pub is_among : List (List ℕ) → List ℕ → Bool
is_among words word = list_any (pointwise ◌==◌ word) words

-- at most so many rows, and these are their names
pub record AreNamed {R : Type 0} (most : ℕ) (name_of : R → List ℕ) (names : List (List ℕ)) (rows : List R) : Type 0 where
  pub same : names ≡ map name_of rows
  pub few : length rows ≤ most

abbrev pub PrefixSet : Type 0
PrefixSet = set.FinSet (slice_cmp nat_cmp)

-- the prefixes of a node, in sets for each node
abbrev pub prefixes_at : List PrefixSet → ℕ → PrefixSet
prefixes_at sets n = unwrap_or (slice_get sets n) set.empty

-- how many prefixes are taken, and which
pub record Taken : Type 0 where
  pub count : ℕ
  pub has : List ℕ → Bool

abbrev pub taken_of_set : PrefixSet → Taken
taken_of_set prefixes = record { count = set.len prefixes; has = set.contains prefixes }

abbrev pub taken_of_list : List (List ℕ) → Taken
taken_of_list prefixes = record { count = length prefixes; has = is_among prefixes }

-- what each node has taken, by sets
unfoldable pub taken_in : List PrefixSet → ℕ → Taken
taken_in sets n = taken_of_set (prefixes_at sets n)

-- what each node has taken, by lists
unfoldable pub taken_by : (ℕ → List (List ℕ)) → ℕ → Taken
taken_by prefixes n = taken_of_list (prefixes n)

-- each of so many nodes has as many prefixes, and the same
pub record ArePrefixed (nodes : ℕ) (sets : List PrefixSet) (prefixes : ℕ → List (List ℕ)) : Type 0 where
  pub one_each : length sets ≡ nodes
  pub same : taken_in sets ≡ taken_by prefixes

-- the node has the prefix more, which it hadn't
pub record IsTaken (node : ℕ) (prefix : List ℕ) (old new : List PrefixSet) : Type 0 where
  pub within : node < length old
  pub is_new : (taken_in old node).has prefix ≡ false
  pub added : new ≡ slice_set old node (set.insert (prefixes_at old node) prefix)
