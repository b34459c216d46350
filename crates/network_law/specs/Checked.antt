-- What tables and ranks keep that a checker accepts. A card is any list of digits here: a checker that looks at the longest
-- prefixes of the rows gives no less, and for each card number it is what is said.
use Rattle.std.specs.Prelude.{ℕ, zero, suc, ◌+◌, ◌<◌, ◌≤◌, ◌≡◌, ◌≢◌, List, length, Contains, Option, Some, true}
use Rattle.card_digits.specs.Numbers.{pad11}
use Rattle.net_rows.specs.Network.{Network, issuer, other_end, day}
use Rattle.net_rows.specs.Sound.{IsSound}
use Rattle.net_rows.specs.declared.row.Issuer.{Issuer}
use Rattle.network_law.specs.Cards.{Bytes}
use Rattle.network_law.specs.Traces.{IsIn}
use Rattle.network_law.specs.Tables.{route_links, is_attached, node_id}

-- the rows are sound, padded node ids are distinct, and an acquirer has one gate
pub record IsChecked (t : Network) : Type 0 where
  pub sound : IsSound t
  pub single_ids : (n m : ℕ) → n < length t.nodes → m < length t.nodes → pad11 (node_id t n) ≡ pad11 (node_id t m) → n ≡ m
  pub single_gates : (acquirer : Bytes) (n m : ℕ) → is_attached t n acquirer ≡ true → is_attached t m acquirer ≡ true → n ≡ m

-- the sum of f over the numbers below n
abbrev pub sum_below : (ℕ → ℕ) → ℕ → ℕ
sum_below f zero = 0
sum_below f (suc n) = sum_below f n + f n

-- only nodes that the card's issuer names may approve by themselves, and together no more than its ceiling
pub record IsBounded (t : Network) : Type 0 where
  pub named : (card : List ℕ) (s : Issuer) (n : ℕ) → issuer t card ≡ Some s → n < length t.nodes → 0 < day t n card → Contains s.named n
  pub within : (card : List ℕ) (s : Issuer) → issuer t card ≡ Some s → sum_below (λ n. day t n card) (length t.nodes) ≤ s.ceiling

-- the rank of a node for a card
abbrev pub Ranks : Type 0
Ranks = ℕ → List ℕ → Option ℕ

-- both have ranks, and low is the lower
pub record Falls (low high : Option ℕ) : Type 0 where
  pub from : ℕ
  pub to : ℕ
  pub is_from : high ≡ Some from
  pub is_to : low ≡ Some to
  pub less : to < from
  pub bound : from < 65536

-- for every card with an issuer, and every node but its home: each link of the route row leads to a lower rank
abbrev pub IsRanked : Network → Ranks → Type 0
IsRanked t ranks = (card : List ℕ) (s : Issuer) (n l : ℕ) → issuer t card ≡ Some s → n < length t.nodes → n ≢ s.home → IsIn l (route_links t n card) → Falls (ranks (other_end t n l) card) (ranks n card)
