-- Walks from node to node, by one digit at each step.
use Rattle.std.specs.Prelude.{ℕ, zero, suc, ◌==◌, Bool, false, List, [], ◌∷◌, map, Option, None, Some, nat_lt, if◌then◌else◌, option_and_then, slice_get, unwrap_or}
use Rattle.std.specs.Option.{option_map, option_map_or}
use Rattle.std.specs.Cmp.Lexicographic.{pointwise}
use Rattle.prefix_map.specs.declared.node.Node.{Node}

-- the digit for a step, and 0 behind the last digit
abbrev pub digit_at : List ℕ → ℕ → ℕ
digit_at digits step = unwrap_or (slice_get digits step) 0

-- the number at a digit, or 0
abbrev pub number_at : List ℕ → ℕ → ℕ
number_at numbers digit = unwrap_or (slice_get numbers digit) 0

-- a place behind another, or none
abbrev pub place_behind : ℕ → ℕ → Option ℕ
place_behind at place = if nat_lt at place then Some place else None

-- where so many steps along digits lead, where a step leads from a place by a digit to another, or nowhere
abbrev pub reach : (ℕ → ℕ → Option ℕ) → List ℕ → ℕ → Option ℕ
reach next digits zero = Some 0
reach next digits (suc steps) = option_and_then (λ at. next at (digit_at digits steps)) (reach next digits steps)

module _ {V : Type 0} where
  -- prefixes with their values
  abbrev pub pairs : List (Node V) → List (List ℕ × V)
  pairs nodes = map (λ n. (n.prefix, n.value)) nodes

  -- another value at a place
  abbrev pub with_value : List (List ℕ × V) → ℕ → V → List (List ℕ × V)
  with_value [] i v = []
  with_value (e ∷ es) zero v = (e.0, v) ∷ es
  with_value (e ∷ es) (suc i) v = e ∷ with_value es i v

  -- the prefix at a place
  abbrev pub prefix_at : List (List ℕ × V) → ℕ → Option (List ℕ)
  prefix_at entries i = option_map (λ e. e.0) (slice_get entries i)

  -- the prefix stands at that place
  abbrev pub is_at : List (List ℕ × V) → ℕ → List ℕ → Bool
  is_at entries i prefix = option_map_or (λ e. pointwise ◌==◌ prefix e.0) (slice_get entries i) false

  -- the number that a node has for a digit
  abbrev pub number_of : Option (Node V) → ℕ → ℕ
  number_of None digit = 0
  number_of (Some n) digit = number_at n.behind digit

  -- the place behind a digit
  abbrev pub next : List (Node V) → ℕ → ℕ → Option ℕ
  next nodes at digit = place_behind at (number_of (slice_get nodes at) digit)
