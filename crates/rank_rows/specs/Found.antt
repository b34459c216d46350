-- What is found by a name and a prefix.
use Rattle.std.specs.Prelude.{◌≡◌, ℕ, ◌<◌, ◌==◌, Bool, true, false, List, [], ◌∷◌, Option, None, length, slice_get, option_and_then, if◌then◌else◌}
use Rattle.std.specs.Cmp.Lexicographic.{pointwise}
use Rattle.std.specs.Map.{lookup}
use Rattle.std.specs.Option.{option_map_or}
use Rattle.prefix_map.specs.Values.{value_of}
use Rattle.rank_rows.specs.declared.pair.Pair.{Pair}
use Rattle.rank_rows.specs.declared.pair.Found.{Found}
use Rattle.rank_rows.specs.declared.found.OfName.{OfName}
use Rattle.rank_rows.specs.Apart.{is_same_pair}

-- what a pair finds: in the map of its name, or else among the others
abbrev pub found_at : List OfName → List (Pair × Found) → Pair → Option Found
found_at [] others p = lookup (is_same_pair p) others
found_at (n ∷ names) others p = if pointwise ◌==◌ p.node n.node then value_of p.prefix n.found.entries else found_at names others p

-- the names with maps of their own, and the others
pub record Known : Type 0 where
  pub names : List OfName
  pub others : List (Pair × Found)

abbrev pub found_of : Known → Pair → Option Found
found_of k p = found_at k.names k.others p

-- the name stands at that place
abbrev pub has_name_at : List OfName → List ℕ → ℕ → Bool
has_name_at names name i = option_map_or (λ n. pointwise ◌==◌ name n.node) (slice_get names i) false

-- it stands nowhere
abbrev pub HasNoName : List OfName → List ℕ → Type 0
HasNoName names name = (i : ℕ) → has_name_at names name i ≡ false

-- what a prefix finds in the map at a place
abbrev pub value_at : List OfName → List ℕ → ℕ → Option Found
value_at names prefix i = option_and_then (λ n. value_of prefix n.found.entries) (slice_get names i)

-- no name stands twice, and there are no others before the names are 64
pub record AreApart (names : List OfName) (others : List (Pair × Found)) : Type 0 where
  pub single : (name : List ℕ) (i j : ℕ) → has_name_at names name i ≡ true → has_name_at names name j ≡ true → i ≡ j
  pub few : length names < 64 → (p : Pair) → lookup (is_same_pair p) others ≡ None
