-- Walks along digits, from branch to branch.
use Rattle.std.specs.Prelude.{ℕ, ◌==◌, List, [], ◌∷◌, Option, None, Some, if◌then◌else◌, option_and_then, slice_get, replicate, unwrap_or}
use Rattle.prefix_trie.specs.declared.branch.Branch.{Branch}

-- a branch with no row and nothing behind it
abbrev pub bare : Branch
bare = record { row = None; behind = replicate 10 0 }

-- the number at a digit, or 0
abbrev pub number_at : List ℕ → ℕ → ℕ
number_at numbers digit = unwrap_or (slice_get numbers digit) 0

-- the branch behind a digit, or 0
abbrev pub behind_of : Option Branch → ℕ → ℕ
behind_of None digit = 0
behind_of (Some b) digit = number_at b.behind digit

abbrev pub behind : List Branch → ℕ → ℕ → ℕ
behind branches at digit = behind_of (slice_get branches at) digit

-- the place of the row that ends at a branch
abbrev pub row_at : List Branch → ℕ → Option ℕ
row_at branches at = option_and_then (λ b. b.row) (slice_get branches at)

-- the branch that digits lead to, where a step from 0 on leads on
abbrev pub reach : (ℕ → ℕ → ℕ) → ℕ → List ℕ → Option ℕ
reach next at [] = Some at
reach next at (d ∷ ds) = if next at d == 0 then None else reach next (next at d) ds

-- the place of the row whose prefix is these digits
abbrev pub place_of : List Branch → List ℕ → Option ℕ
place_of branches digits = option_and_then (row_at branches) (reach (behind branches) 0 digits)
