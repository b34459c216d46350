-- What holds of the rows of every network that is built: ends of links and gates of acquirers are nodes of it, and the links of a
-- route are links at the route's node. Of homes, named nodes and the nodes of stand-in rows nothing is said.
use Rattle.std.specs.Prelude.{◌≡◌, ℕ, ◌<◌, ◌≤◌, ◌==◌, ◌||◌, Bool, true, false, List, length, slice_get}
use Rattle.std.specs.List.{AllByRecursion, list_all}
use Rattle.std.specs.Option.{option_map_or}
use Rattle.card_digits.specs.Digits.{IsDateLabel, IsId}
use Rattle.net_rows.specs.declared.row.Link.{Link}
use Rattle.net_rows.specs.declared.row.Acquirer.{Acquirer}
use Rattle.net_rows.specs.declared.row.Route.{Route}
use Rattle.net_rows.specs.Network.{Network}

-- both ends are among so many nodes
pub record HasEnds (nodes : ℕ) (l : Link) : Type 0 where
  pub from : l.from < nodes
  pub to : l.to < nodes

abbrev pub AreEnds : ℕ → List Link → Type 0
AreEnds nodes links = AllByRecursion (HasEnds nodes) links

-- each acquirer is at one of so many nodes
abbrev pub AreAtNodes : ℕ → List Acquirer → Type 0
AreAtNodes nodes acquirers = AllByRecursion (λ a. a.node < nodes) acquirers

-- the node is an end of the link
abbrev pub is_end : List Link → ℕ → ℕ → Bool
is_end links node l = option_map_or (λ k. (k.from == node) || (k.to == node)) (slice_get links l) false

-- each link of a route has the route's node as an end
abbrev pub AreOwnLinks : List Link → List Route → Type 0
AreOwnLinks links routes = AllByRecursion (λ r. list_all (is_end links r.node) r.links ≡ true) routes

pub record IsSound (t : Network) : Type 0 where
  pub date : IsDateLabel t.settings.date
  pub few_nodes : length t.nodes ≤ 64
  pub few_links : length t.links ≤ 256
  pub ids : AllByRecursion (λ n. IsId n.id) t.nodes
  pub ends : AreEnds (length t.nodes) t.links
  pub gates : AreAtNodes (length t.nodes) t.acquirers
  pub routes : AreOwnLinks t.links t.routes
