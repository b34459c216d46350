-- What a node looks up in the tables.
use Rattle.std.specs.Prelude.{ℕ, zero, suc, List, [], ◌∷◌, ◌++◌, length, filter, slice_get, Bool, false, ◌&&◌, ◌||◌, ◌==◌, bytes_eq, Option, Some, None}
use Rattle.std.specs.List.{list_any}
use Rattle.std.specs.Option.{option_map_or}
use Rattle.card_digits.specs.Numbers.{pad11}
use Rattle.net_rows.specs.Network.{Network, route, stand_in, other_end}
use Rattle.net_rows.specs.declared.row.Issuer.{Issuer}
use Rattle.network_law.specs.Cards.{Bytes}

-- the links of the route row that a card meets at a node, in the row's order, and none without a row
unfoldable pub route_links : Network → ℕ → List ℕ → List ℕ
route_links t n card = option_map_or (λ r. r.links) (route t n card) []

-- the most that a node may approve by itself in one amount
abbrev pub single : Network → ℕ → List ℕ → ℕ
single t n card = option_map_or (λ r. r.single) (stand_in t n card) 0

-- how many ticks a request may be pending on a link
abbrev pub link_ticks : Network → ℕ → ℕ
link_ticks t l = option_map_or (λ k. k.ticks) (slice_get t.links l) 0

-- the link is there, and the node is one of its ends
abbrev pub is_link_of : Network → ℕ → ℕ → Bool
is_link_of t n l = option_map_or (λ k. (k.from == n) || (k.to == n)) (slice_get t.links l) false

-- the id of a node
abbrev pub node_id : Network → ℕ → Bytes
node_id t n = option_map_or (λ k. k.id) (slice_get t.nodes n) []

-- an acquirer with this padded id is attached to the node
abbrev pub is_attached : Network → ℕ → Bytes → Bool
is_attached t n acquirer = list_any (λ row. (row.node == n) && bytes_eq (pad11 row.id) acquirer) t.acquirers

abbrev pub is_home : Issuer → ℕ → Bool
is_home i n = i.home == n

-- the card's issuer names the node
abbrev pub is_named : Option Issuer → ℕ → Bool
is_named None n = false
is_named (Some s) n = list_any (λ m. m == n) s.named

-- the numbers below n, in order
abbrev pub numbers_below : ℕ → List ℕ
numbers_below zero = []
numbers_below (suc n) = numbers_below n ++ n ∷ []

abbrev pub joins : Network → ℕ → ℕ → ℕ → Bool
joins t n m l = is_link_of t n l && other_end t n l == m

-- the links that join two nodes, in table order
unfoldable pub links_between : Network → ℕ → ℕ → List ℕ
links_between t n m = filter (joins t n m) (numbers_below (length t.links))
