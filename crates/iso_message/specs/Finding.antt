-- Elements by their numbers, in a list in ascending order.
use Rattle.std.specs.Prelude.{ℕ, nat_lt, ◌==◌, if◌then◌else◌, List, [], ◌∷◌, Option, Some, None}

-- the bytes of the first element of the number
unfoldable pub find_element : ℕ → List (ℕ × List ℕ) → Option (List ℕ)
find_element n [] = None
find_element n (e ∷ es) = if e.0 == n then Some e.1 else find_element n es

-- with the element in its place, instead of one of its number
unfoldable pub put : ℕ → List ℕ → List (ℕ × List ℕ) → List (ℕ × List ℕ)
put n value [] = (n, value) ∷ []
put n value (e ∷ es) = if nat_lt e.0 n then e ∷ put n value es else if e.0 == n then (n, value) ∷ es else (n, value) ∷ e ∷ es

-- the elements but those of the number
unfoldable pub without : ℕ → List (ℕ × List ℕ) → List (ℕ × List ℕ)
without n [] = []
without n (e ∷ es) = if e.0 == n then without n es else e ∷ without n es
