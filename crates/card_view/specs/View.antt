-- What the nodes of a network do with a card, as text.
use Rattle.std.specs.Prelude.{ℕ, zero, suc, ◌==◌, Bool, false, List, [], ◌∷◌, ◌++◌, length, codes, Option, Some, None, option_and_then, if◌then◌else◌}
use Rattle.std.specs.Fmt.{decimal}
use Rattle.std.specs.List.{concat, flat_map}
use Rattle.card_digits.specs.Digits.{digits_text}
use Rattle.card_digits.specs.Longest.{longest}
use Rattle.net_rows.specs.Network.{Network, prefixes, issuer, route, stand_in, day, other_end}
use Rattle.net_rows.specs.declared.row.Acquirer.{Acquirer}
use Rattle.net_rows.specs.declared.row.Issuer.{Issuer}
use Rattle.net_rows.specs.declared.row.Route.{Route}
use Rattle.net_rows.specs.declared.row.StandIn.{StandIn}
use Rattle.network_law.specs.Checked.{sum_below}
use Rattle.rank_rows.specs.declared.rank.Rank.{Rank}
use Rattle.table_checker.specs.Ranks.{rank_at}
use Rattle.bundle_text.specs.Lines.{Text, line_feed, node_name, link_name}

-- the class of a card: the longest prefix of an issuer, route or stand-in row that begins it
abbrev pub class : Network → List ℕ → Option (List ℕ)
class t card = longest (λ p. p) (prefixes t) card

abbrev pub class_line : Option (List ℕ) → Text
class_line None = codes "no class\n"
class_line (Some class) = codes "class " ++ digits_text class ++ line_feed

-- names of nodes, a space before each
abbrev pub nodes_text : Network → List ℕ → Text
nodes_text t nodes = flat_map (λ n. 32 ∷ node_name t n) nodes

-- the nodes that an issuer names
abbrev pub named_text : Network → List ℕ → Text
named_text t [] = codes "no named nodes"
named_text t (n ∷ ns) = codes "named nodes" ++ nodes_text t (n ∷ ns)

abbrev pub issuer_line : Network → Option Issuer → Text
issuer_line t None = codes "no issuer\n"
issuer_line t (Some i) = concat (codes "issuer " ∷ i.name ∷ codes ": PAN prefix " ∷ digits_text i.prefix ∷ codes "; home " ∷ node_name t i.home ∷ codes "; ceiling " ∷ decimal i.ceiling ∷ codes "; " ∷ named_text t i.named ∷ line_feed ∷ [])

-- a link of a node, and the node at its other end
abbrev pub hop_text : Network → ℕ → ℕ → Text
hop_text t n l = link_name t l ++ codes " to " ++ node_name t (other_end t n l)

abbrev pub fallbacks_text : Network → ℕ → List ℕ → Text
fallbacks_text t n links = flat_map (λ l. codes ", fallback " ++ hop_text t n l) links

-- the links of a row in their order: the first that is up is taken
abbrev pub hops_text : Network → ℕ → List ℕ → Text
hops_text t n [] = []
hops_text t n (l ∷ ls) = codes " " ++ hop_text t n l ++ fallbacks_text t n ls

abbrev pub route_text : Network → ℕ → Option Route → Text
route_text t n None = codes "no route"
route_text t n (Some r) = codes "route " ++ digits_text r.prefix ++ codes ":" ++ hops_text t n r.links

abbrev pub stand_in_text : Option StandIn → Text
stand_in_text None = codes "no stand-in"
stand_in_text (Some s) = codes "stand-in " ++ digits_text s.prefix ++ codes ": day " ++ decimal s.day ++ codes ", single " ++ decimal s.single

abbrev pub rank_text : Option ℕ → Text
rank_text None = codes "no rank"
rank_text (Some rank) = codes "rank " ++ decimal rank

-- the issuer's host stands at this node
abbrev pub is_home : Option Issuer → ℕ → Bool
is_home None n = false
is_home (Some i) n = i.home == n

abbrev pub home_text : Option Issuer → ℕ → Text
home_text issuer n = if is_home issuer n then codes " (home)" else []

-- the rank of a node at a class, if there is one
abbrev pub rank_in : Network → List Rank → Option (List ℕ) → ℕ → Option ℕ
rank_in t cert class n = option_and_then (λ prefix. rank_at t cert n prefix) class

module _ (t : Network) (cert : List Rank) (card : List ℕ) (class : Option (List ℕ)) where
  -- a node's rank at the class, and its rows in force
  abbrev pub node_line : ℕ → Text
  node_line n = concat (codes "node " ∷ node_name t n ∷ home_text (issuer t card) n ∷ codes ": " ∷ rank_text (rank_in t cert class n) ∷ codes "; " ∷ route_text t n (route t n card) ∷ codes "; " ∷ stand_in_text (stand_in t n card) ∷ line_feed ∷ [])

  -- those of the first so many nodes
  abbrev pub node_lines : ℕ → Text
  node_lines zero = []
  node_lines (suc n) = node_lines n ++ node_line n

-- how much all nodes together may approve by themselves for a card and a day
abbrev pub days_sum : Network → List ℕ → ℕ
days_sum t card = sum_below (λ n. day t n card) (length t.nodes)

-- this sum, beside the ceiling of the card's issuer
abbrev pub days_line : ℕ → Option Issuer → Text
days_line sum None = codes "sum of stand-in days " ++ decimal sum ++ codes "; no ceiling\n"
days_line sum (Some i) = concat (codes "sum of stand-in days " ∷ decimal sum ∷ codes "; ceiling " ∷ decimal i.ceiling ∷ line_feed ∷ [])

-- the links of a route row, and none where there is no row
abbrev pub links_of : Option Route → List ℕ
links_of None = []
links_of (Some r) = r.links

module _ (t : Network) (card : List ℕ) where
  -- the links of a row, and what comes behind the other end of the first
  abbrev pub onward : (ℕ → Text) → ℕ → List ℕ → Text
  onward further n [] = codes " no route"
  onward further n (l ∷ ls) = hops_text t n (l ∷ ls) ++ codes ";" ++ further (other_end t n l)

  -- the way from a node by the first link of each route row, to the home or as far as there are rows, over so many nodes at most
  abbrev pub way_text : ℕ → ℕ → Text
  way_text zero n = codes " and so on"
  way_text (suc k) n = if is_home (issuer t card) n then codes " home" else onward (way_text k) n (links_of (route t n card))

  -- an acquirer, and the way from its node; where ranks fall along it, it has no more than 64 nodes
  abbrev pub acquirer_line : Acquirer → Text
  acquirer_line a = concat (codes "acquirer " ∷ a.id ∷ codes " at " ∷ node_name t a.node ∷ codes ":" ∷ way_text 64 a.node ∷ line_feed ∷ [])

  abbrev pub acquirer_lines : List Acquirer → Text
  acquirer_lines acquirers = flat_map acquirer_line acquirers

-- the class of a card, its issuer, what each node does with it, the sum of days, and the way from each acquirer
abbrev pub view_text : Network → List Rank → List ℕ → Text
view_text t cert card = class_line (class t card) ++ issuer_line t (issuer t card) ++ node_lines t cert card (class t card) (length t.nodes) ++ days_line (days_sum t card) (issuer t card) ++ acquirer_lines t card t.acquirers
