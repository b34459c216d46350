-- Rows of which those of one prefix stand together.
use Rattle.std.specs.Prelude.{◌≡◌, ℕ, ◌≤◌, ◌==◌, Bool, true, false, List, [], ◌∷◌, length, drop, Option, Some, None, if◌then◌else◌, MatchOption}
use Rattle.std.specs.Cmp.Lexicographic.{pointwise}
use Rattle.std.specs.List.{list_any}
use Rattle.std.specs.Map.{lookup}
use Rattle.rank_rows.specs.declared.rank.Rank.{Rank}
use Rattle.rank_rows.specs.Ranks.{rank_of}

-- the rank of a name among the rows that come before one of another prefix
abbrev pub rank_in_run : List Rank → List ℕ → List ℕ → Option ℕ
rank_in_run [] name prefix = None
rank_in_run (r ∷ rs) name prefix = if pointwise ◌==◌ r.prefix prefix then (if pointwise ◌==◌ r.node name then Some r.rank else rank_in_run rs name prefix) else None

-- the first row has the prefix
abbrev pub begins_with : List Rank → List ℕ → Bool
begins_with [] prefix = false
begins_with (r ∷ rs) prefix = pointwise ◌==◌ r.prefix prefix

-- a row has the name
abbrev pub has_name : List Rank → List ℕ → Bool
has_name rows name = list_any (λ r. pointwise ◌==◌ r.node name) rows

-- where the rows of a prefix begin
abbrev pub begin_of : List (List ℕ × ℕ) → List ℕ → Option ℕ
begin_of begins prefix = lookup (λ p. pointwise ◌==◌ prefix p) begins

-- no row has the prefix
abbrev pub HasNone : List Rank → List ℕ → Type 0
HasNone rows prefix = (name : List ℕ) → rank_of rows name prefix ≡ None

-- all rows have the prefix
abbrev pub AreOf : List Rank → List ℕ → Type 0
AreOf [] prefix = Unit {0}
AreOf (r ∷ rs) prefix = (r.prefix ≡ prefix) × AreOf rs prefix

-- the rows of a prefix stand together from a place on: there each name has the rank that it has among all rows
pub record IsRun (rows : List Rank) (prefix : List ℕ) (place : ℕ) : Type 0 where
  pub within : place ≤ length rows
  pub ranks : (name : List ℕ) → rank_of rows name prefix ≡ rank_in_run (drop place rows) name prefix

-- the map knows where the rows of each prefix begin, and where those of the last row's prefix do; these go on to the end
pub record AreRuns (rows : List Rank) (begins : List (List ℕ × ℕ)) (last : ℕ) : Type 0 where
  pub each : (prefix : List ℕ) → MatchOption (begin_of begins prefix) (HasNone rows prefix) (IsRun rows prefix)
  pub last_begins : (prefix : List ℕ) → begins_with (drop last rows) prefix ≡ true → begin_of begins prefix ≡ Some last
  pub last_goes_on : (prefix : List ℕ) → begins_with (drop last rows) prefix ≡ true → AreOf (drop last rows) prefix

-- the rows from a place on have one prefix, and none has the other
pub record CanRepeat (rows : List Rank) (place : ℕ) (prefix : List ℕ) : Type 0 where
  pub last : List ℕ
  pub one : AreOf (drop place rows) last
  pub none : HasNone rows prefix
