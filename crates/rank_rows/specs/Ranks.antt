-- Rows of ranks, of which no two have the same pair of a name and a prefix.
use Rattle.std.specs.Prelude.{◌≡◌, ℕ, ◌<◌, ◌==◌, ◌&&◌, ◌++◌, Bool, List, [], ◌∷◌, Option, Some, None, is_some, is_none, if◌then◌else◌}
use Rattle.std.specs.Cmp.Lexicographic.{pointwise}
use Rattle.card_digits.specs.Digits.{IsPrefix}
use Rattle.card_digits.specs.Reading.{name_of}
use Rattle.rank_rows.specs.declared.rank.Rank.{Rank}

-- the row has that name and that prefix
abbrev pub is_of : Rank → List ℕ → List ℕ → Bool
is_of r name prefix = pointwise ◌==◌ r.node name && pointwise ◌==◌ r.prefix prefix

-- the rank of a name at a prefix
abbrev pub rank_of : List Rank → List ℕ → List ℕ → Option ℕ
rank_of [] name prefix = None
rank_of (r ∷ rs) name prefix = if is_of r name prefix then Some r.rank else rank_of rs name prefix

-- the bytes are a name, which has no rank at the prefix
abbrev pub is_new : List Rank → List ℕ → List ℕ → Bool
is_new rows name prefix = is_some (name_of name) && is_none (rank_of rows name prefix)

-- a name, a prefix and a number of 16 bits
pub record IsRow (r : Rank) : Type 0 where
  pub node : name_of r.node ≡ Some r.node
  pub prefix : IsPrefix r.prefix
  pub rank : r.rank < 65536

-- rows whose pairs are new behind the rows that are done
abbrev pub AddsRows : List Rank → List Rank → Type 0
AddsRows done [] = Unit {0}
AddsRows done (r ∷ rs) = IsRow r × (rank_of done r.node r.prefix ≡ None) × AddsRows (done ++ r ∷ []) rs

-- rows of which no two have the same pair
abbrev pub IsCert : List Rank → Type 0
IsCert rows = AddsRows [] rows

-- a row of a prefix for each of these, with its name and the next of some ranks
abbrev pub like_rows : List Rank → List ℕ → List ℕ → List Rank
like_rows [] prefix ranks = []
like_rows (r ∷ rs) prefix [] = []
like_rows (r ∷ rs) prefix (k ∷ ks) = record { node = r.node; prefix = prefix; rank = k } ∷ like_rows rs prefix ks

-- the last row has the prefix
pub record EndsWith (prefix : List ℕ) (rows : List Rank) : Type 0 where
  pub front : List Rank
  pub last : Rank
  pub whole : rows ≡ front ++ last ∷ []
  pub is : last.prefix ≡ prefix
