-- The greatest name of a run.
use Rattle.std.specs.Prelude.{◌≡◌, ℕ, ◌≤◌, Bool, false, List, [], ◌∷◌, length, drop, Option, Some, None, if◌then◌else◌}
use Rattle.std.specs.Cmp.Lexicographic.{slice_cmp}
use Rattle.std.specs.Ordering.{is_lt, nat_cmp}
use Rattle.rank_rows.specs.declared.rank.Rank.{Rank}
use Rattle.rank_rows.specs.declared.greatest.Greatest.{Greatest}

-- a name comes behind another, where there is one
abbrev pub is_behind : Option (List ℕ) → List ℕ → Bool
is_behind None name = false
is_behind (Some greatest) name = is_lt (slice_cmp nat_cmp greatest name)

-- the greater of two names, of which the first may be lacking
abbrev pub greater : Option (List ℕ) → List ℕ → Option (List ℕ)
greater None name = Some name
greater (Some greatest) name = Some (if is_lt (slice_cmp nat_cmp greatest name) then name else greatest)

-- the greatest of a name and those of some rows
abbrev pub greatest_from : Option (List ℕ) → List Rank → Option (List ℕ)
greatest_from greatest [] = greatest
greatest_from greatest (r ∷ rs) = greatest_from (greater greatest r.node) rs

-- the greatest name of some rows
abbrev pub greatest_of : List Rank → Option (List ℕ)
greatest_of rows = greatest_from None rows

-- it is that of the first rows of a run
pub record IsOf (greatest : Greatest) (run : List Rank) : Type 0 where
  pub within : greatest.rows ≤ length run
  pub name : greatest_from greatest.name (drop greatest.rows run) ≡ greatest_of run
