-- What the nodes of a network do with a card, as JSON: each object has its keys in byte order.
use Rattle.std.specs.Prelude.{ℕ, zero, suc, List, [], ◌∷◌, ◌++◌, length, map, codes, Option, Some, None, if◌then◌else◌}
use Rattle.std.specs.Option.{option_map_or}
use Rattle.card_digits.specs.Digits.{digits_text}
use Rattle.net_rows.specs.Network.{Network, issuer, route, stand_in, other_end}
use Rattle.net_rows.specs.declared.row.Acquirer.{Acquirer}
use Rattle.net_rows.specs.declared.row.Issuer.{Issuer}
use Rattle.net_rows.specs.declared.row.Route.{Route}
use Rattle.net_rows.specs.declared.row.StandIn.{StandIn}
use Rattle.rank_rows.specs.declared.rank.Rank.{Rank}
use Rattle.table_checker.specs.declared.refusal.Refusal.{Refusal}
use Rattle.bundle_text.specs.Lines.{Text, node_name, link_name}
use Rattle.serde_json.specs.Data.{Data, null, boolean, object, member, no_members}
use Rattle.refusals_json.specs.Json.{count, listed, text}
use Rattle.refusals_json.specs.ListedJson.{told}
use Rattle.card_view.specs.View.{class, days_sum, is_home, links_of, rank_in}

-- a link of a node, and the node at its other end
abbrev pub link_data : Network → ℕ → ℕ → Data
link_data t n l = object (member (codes "link") (text (link_name t l)) (member (codes "to") (text (node_name t (other_end t n l))) no_members))

-- the links of a node's row in their order: the first that is up is taken
abbrev pub links_data : Network → ℕ → List ℕ → Data
links_data t n links = listed (map (link_data t n) links)

-- a route row of a node
abbrev pub route_data : Network → ℕ → Route → Data
route_data t n r = object (member (codes "links") (links_data t n r.links) (member (codes "prefix") (text (digits_text r.prefix)) no_members))

abbrev pub stand_in_data : StandIn → Data
stand_in_data s = object (member (codes "day") (count s.day) (member (codes "prefix") (text (digits_text s.prefix)) (member (codes "single") (count s.single) no_members)))

-- an issuer, by its parts
abbrev pub issuer_object : ℕ → Text → Text → List Data → Text → Data
issuer_object ceiling home name named prefix =
    object (member (codes "ceiling") (count ceiling)
    (member (codes "home") (text home)
    (member (codes "name") (text name)
    (member (codes "named") (listed named)
    (member (codes "prefix") (text prefix) no_members)))))

-- with the names of its home and of the nodes that it names
abbrev pub issuer_data : Network → Issuer → Data
issuer_data t i = issuer_object i.ceiling (node_name t i.home) i.name (map (λ n. text (node_name t n)) i.named) (digits_text i.prefix)

module _ (t : Network) (cert : List Rank) (card : List ℕ) (class : Option (List ℕ)) where
  -- a node's rank at the class, and its rows in force
  abbrev pub node_data : ℕ → Data
  node_data n =
      object (member (codes "home") (boolean (is_home (issuer t card) n))
      (member (codes "name") (text (node_name t n))
      (member (codes "rank") (option_map_or count (rank_in t cert class n) null)
      (member (codes "route") (option_map_or (route_data t n) (route t n card) null)
      (member (codes "stand_in") (option_map_or stand_in_data (stand_in t n card) null) no_members)))))

  -- the first so many nodes
  abbrev pub nodes_data : ℕ → List Data
  nodes_data zero = []
  nodes_data (suc n) = nodes_data n ++ node_data n ∷ []

-- a hop: a node, and the links of its route row in force
abbrev pub hop_data : Network → ℕ → List ℕ → Data
hop_data t n links = object (member (codes "links") (links_data t n links) (member (codes "node") (text (node_name t n)) no_members))

module _ (t : Network) (card : List ℕ) where
  -- the hop by the links of a row, and those behind the other end of the first
  abbrev pub hops_onward : (ℕ → List Data) → ℕ → List ℕ → List Data
  hops_onward further n [] = []
  hops_onward further n (l ∷ ls) = hop_data t n (l ∷ ls) ∷ further (other_end t n l)

  -- the hops from a node by the first link of each route row, to the home or as far as there are rows, over so many nodes at most
  abbrev pub way_hops : ℕ → ℕ → List Data
  way_hops zero n = []
  way_hops (suc k) n = if is_home (issuer t card) n then [] else hops_onward (way_hops k) n (links_of (route t n card))

  -- how the way goes on by the links of a row
  abbrev pub end_onward : (ℕ → Text) → ℕ → List ℕ → Text
  end_onward further n [] = codes "no route"
  end_onward further n (l ∷ ls) = further (other_end t n l)

  -- how the same way ends
  abbrev pub way_end : ℕ → ℕ → Text
  way_end zero n = codes "and so on"
  way_end (suc k) n = if is_home (issuer t card) n then codes "home" else end_onward (way_end k) n (links_of (route t n card))

  -- the way from a node; where ranks fall along it, it has no more than 64 nodes
  abbrev pub way_data : ℕ → Data
  way_data n = object (member (codes "end") (text (way_end 64 n)) (member (codes "hops") (listed (way_hops 64 n)) no_members))

  -- an acquirer, and the way from its node
  abbrev pub acquirer_data : Acquirer → Data
  acquirer_data a =
      object (member (codes "id") (text a.id)
      (member (codes "node") (text (node_name t a.node))
      (member (codes "way") (way_data a.node) no_members)))

-- the word of a verdict
abbrev pub verdict_word : Option Refusal → Text
verdict_word None = codes "accepted"
verdict_word (Some r) = codes "refused"

-- what is said of a card, by its parts
abbrev pub object_of : Data → Data → Data → Data → Data → ℕ → Text → Data
object_of acquirers class issuer nodes refusal days verdict =
    object (member (codes "acquirers") acquirers
    (member (codes "class") class
    (member (codes "issuer") issuer
    (member (codes "nodes") nodes
    (member (codes "refusal") refusal
    (member (codes "sum_of_days") (count days)
    (member (codes "verdict") (text verdict) no_members)))))))

abbrev pub class_data : Option (List ℕ) → Data
class_data class = option_map_or (λ p. text (digits_text p)) class null

abbrev pub refusal_data : Network → Option Refusal → Data
refusal_data t first = option_map_or (λ r. object (told t r)) first null

-- the verdict, the class of a card, its issuer, what each node does with it, the sum of days, and the way from each acquirer
abbrev pub card_data : Network → List Rank → List ℕ → Option Refusal → Data
card_data t cert card first =
    object_of
    (listed (map (acquirer_data t card) t.acquirers))
    (class_data (class t card))
    (option_map_or (issuer_data t) (issuer t card) null)
    (listed (nodes_data t cert card (class t card) (length t.nodes)))
    (refusal_data t first)
    (days_sum t card)
    (verdict_word first)
