-- A list that is changed place by place.
use Rattle.std.proofs.Common.{◌≡◌, ℕ, ◌+◌, ◌<◌, List, ◌++◌, map, take, drop, length, get_or, set, arith}
use Rattle.std.proofs.lemmas.Grind.{elements}
use Rattle.std.proofs.lemmas.List.Edits.{map_over_more}

same_default : {X : Type 0} (xs : List X) (i : ℕ) (d e : X) → i < length xs → get_or xs i d ≡ get_or xs i e
same_default xs i d e p = grind (arith, elements)

pub set_mapped : {X : Type 0} (f : X → X) (xs ys : List X) (i : ℕ) (d : X) → i < length xs → length ys ≡ length xs → ys ≡ map f (take i xs) ++ drop i xs → set ys i (f (get_or ys i d)) ≡ map f (take (i + 1) xs) ++ drop (i + 1) xs
set_mapped f xs ys i d p l e = map_over_more f xs ys i (get_or ys i d) p e (same_default ys i d (get_or ys i d) (omega (arith, l)))
