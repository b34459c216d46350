-- Nodes whose routes lead round in a circle.
use Rattle.std.specs.Prelude.{◌≡◌, ◌≢◌, ℕ, ◌+◌, ◌-◌, ◌<◌, ◌≤◌, List, [], length, slice_index, IfSome}
use Rattle.std.specs.List.{Any}
use Rattle.std.specs.Option.{option_map_or}
use Rattle.net_rows.specs.Network.{Network, issuer, route, other_end}

-- the links of the node's route row for the class, none without a row
abbrev pub route_links : Network → List ℕ → ℕ → List ℕ
route_links t class n = option_map_or (λ r. r.links) (route t n class) []

-- one of its links leads from the node to the next
abbrev pub LeadsTo : Network → List ℕ → ℕ → ℕ → Type 0
LeadsTo t class n next = Any (λ l. other_end t n l ≡ next) (route_links t class n)

-- the node isn't the home of the class's issuer
abbrev pub IsAway : Network → List ℕ → ℕ → Type 0
IsAway t class n = IfSome (issuer t class) (λ i. i.home ≢ n)

abbrev pub GoesOn : Network → List ℕ → ℕ → ℕ → Type 0
GoesOn t class n next = IsAway t class n × LeadsTo t class n next

-- from each node but the last, none of them the home, a route leads to the next, and the last is the first
pub record IsCircle (t : Network) (class nodes : List ℕ) : Type 0 where
  pub two : 2 ≤ length nodes
  pub closed : slice_index nodes 0 ≡ slice_index nodes (length nodes - 1)
  pub goes_on : (k : ℕ) → k + 1 < length nodes → GoesOn t class (slice_index nodes k) (slice_index nodes (k + 1))
