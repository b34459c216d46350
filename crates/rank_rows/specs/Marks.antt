-- Marks of the names that the rows of a run have.
use Rattle.std.specs.Prelude.{◌≡◌, ℕ, ◌+◌, ◌*◌, ◌%◌, Bool, true, false, List, [], ◌∷◌, get_or}
use Rattle.rank_rows.specs.declared.rank.Rank.{Rank}

-- the number to the base 31 whose digits these are behind a number, and of that the last byte
abbrev pub place_from : ℕ → List ℕ → ℕ
place_from n [] = n
place_from n (b ∷ bs) = place_from ((n * 31 % 256 + b) % 256) bs

-- the place of a name
abbrev pub place_of : List ℕ → ℕ
place_of name = place_from 0 name

-- the place has a mark
abbrev pub is_marked : List Bool → ℕ → Bool
is_marked marks place = get_or marks place false

-- what was marked still is
abbrev pub Keeps : List Bool → List Bool → Type 0
Keeps old new = (place : ℕ) → is_marked old place ≡ true → is_marked new place ≡ true

-- the name of each row has a mark at its place
abbrev pub AreMarked : List Bool → List Rank → Type 0
AreMarked marks [] = Unit {0}
AreMarked marks (r ∷ rs) = (is_marked marks (place_of r.node) ≡ true) × AreMarked marks rs
