-- Pairs of a prefix and a value, in ascending order of prefix.
use Rattle.std.specs.Prelude.{ℕ, ◌==◌, Bool, List, [], ◌∷◌, fold, Option, if◌then◌else◌}
use Rattle.std.specs.List.{find}
use Rattle.std.specs.Ordering.{nat_cmp, is_lt}
use Rattle.std.specs.Cmp.Lexicographic.{slice_cmp, pointwise}

module _ {T : Type 0} where
  abbrev pub prefix_of : List ℕ × T → List ℕ
  prefix_of pair = pair.0

  abbrev pub is_of : List ℕ → List ℕ × T → Bool
  is_of prefix pair = pointwise ◌==◌ (prefix_of pair) prefix

  -- the pair of a prefix
  abbrev pub pair_of : List ℕ → List (List ℕ × T) → Option (List ℕ × T)
  pair_of prefix pairs = find (is_of prefix) pairs

  -- one pair more, before the first with a greater prefix
  abbrev pub inserted : List ℕ × T → List (List ℕ × T) → List (List ℕ × T)
  inserted pair [] = pair ∷ []
  inserted pair (other ∷ rest) = if is_lt (slice_cmp nat_cmp (prefix_of pair) (prefix_of other)) then pair ∷ other ∷ rest else other ∷ inserted pair rest

  -- pairs in ascending order of prefix
  abbrev pub in_order : List (List ℕ × T) → List (List ℕ × T)
  in_order pairs = fold (λ done pair. inserted pair done) [] pairs
