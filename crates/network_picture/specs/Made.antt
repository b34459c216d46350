-- The picture of a network at a class.
use Rattle.std.specs.Prelude.{ℕ, ◌+◌, zero, suc, ◌==◌, Bool, false, List, [], ◌∷◌, ◌++◌, length, map, Option, option_map, option_and_then, slice_get, unwrap_or, if◌then◌else◌}
use Rattle.std.specs.Option.{option_map_or}
use Rattle.net_rows.specs.Network.{Network, issuer, route, stand_in, other_end}
use Rattle.net_rows.specs.declared.row.Issuer.{Issuer}
use Rattle.net_rows.specs.declared.row.Node.{Node}
use Rattle.net_rows.specs.declared.row.Link.{Link}
use Rattle.net_rows.specs.declared.row.Route.{Route}
use Rattle.net_rows.specs.declared.row.StandIn.{StandIn}
use Rattle.rank_rows.specs.declared.rank.Rank.{Rank}
use Rattle.rank_rows.specs.Ranks.{rank_of}
use Rattle.all_refusals.specs.declared.row.RowRefusal.{RowRefusal}
use Rattle.picture_text.specs.declared.parts.NodeBox.{NodeBox}
use Rattle.picture_text.specs.declared.parts.LinkLine.{LinkLine}
use Rattle.picture_text.specs.declared.parts.Arrow.{Arrow}
use Rattle.picture_text.specs.declared.parts.Choice.{Choice}
use Rattle.picture_text.specs.declared.parts.Choice.TheVariants.{First, Fallback}
use Rattle.picture_text.specs.declared.parts.Corner.{Corner}
use Rattle.picture_text.specs.declared.parts.StandInMark.{StandInMark}
use Rattle.picture_text.specs.Layout.{node_corners, picture_size}
use Rattle.picture_text.specs.Picture.{Drawn}
use Rattle.network_picture.specs.declared.nodes.NumberedNode.{NumberedNode}
use Rattle.network_picture.specs.Refused.{speaks_of, is_route, is_stand_in, is_node, is_link}

-- a node's rank at the class
abbrev pub rank_in : List Rank → Option (List ℕ) → Node → Option ℕ
rank_in cert class node = option_and_then (rank_of cert node.name) class

-- the rows in force at the class, if there is a class
abbrev pub route_in : Network → Option (List ℕ) → ℕ → Option Route
route_in t class n = option_and_then (route t n) class

abbrev pub stand_in_in : Network → Option (List ℕ) → ℕ → Option StandIn
stand_in_in t class n = option_and_then (stand_in t n) class

abbrev pub home_in : Network → Option (List ℕ) → Option ℕ
home_in t class = option_map (λ (i : Issuer). i.home) (option_and_then (issuer t) class)

abbrev pub is_home_of : Option ℕ → ℕ → Bool
is_home_of home n = option_map_or (λ h. h == n) home false

-- each element by its place, counted from this place on
abbrev pub by_place : {A B : Type 0} → (ℕ → A → B) → ℕ → List A → List B
by_place f place [] = []
by_place f place (x ∷ xs) = f place x ∷ by_place f (place + 1) xs

-- a node's row with its place
abbrev pub numbered : ℕ → Node → NumberedNode
numbered n row = record { node = n; row = row }

-- a stand-in row as a mark
abbrev pub mark : Network → List RowRefusal → StandIn → StandInMark
mark t found s = record { day = s.day; is_refused = speaks_of (is_stand_in t s) found }

-- the upper left corner, for want of another
abbrev pub no_corner : Corner
no_corner = record { left = 0; top = 0 }

abbrev pub ranks_in : Network → List Rank → Option (List ℕ) → List (Option ℕ)
ranks_in t cert class = map (rank_in cert class) t.nodes

module _ (t : Network) (cert : List Rank) (class : Option (List ℕ)) (found : List RowRefusal) where
  -- a node in the layer of its rank
  abbrev pub node_box : List Corner → ℕ → Node → NodeBox
  node_box corners n node = record {
    node = n;
    name = node.name;
    id = node.id;
    rank = rank_in cert class node;
    is_home = is_home_of (home_in t class) n;
    stand_in = option_map (mark t found) (stand_in_in t class n);
    is_refused = speaks_of (is_node n) found;
    corner = unwrap_or (slice_get corners n) no_corner;
  }

  -- all nodes, in the order of the tables
  abbrev pub boxes_at : List Corner → List NodeBox
  boxes_at corners = by_place (node_box corners) 0 t.nodes

  abbrev pub node_boxes : List NodeBox
  node_boxes = boxes_at (node_corners (ranks_in t cert class))

abbrev pub link_line : List RowRefusal → ℕ → Link → LinkLine
link_line found n l = record { link = n; name = l.name; from = l.from; to = l.to; ticks = l.ticks; is_refused = speaks_of (is_link n) found }

-- all links, in the order of the tables
abbrev pub link_lines : Network → List RowRefusal → List LinkLine
link_lines t found = by_place (link_line found) 0 t.links

-- the links of a route row: the first, and the fallbacks behind it
abbrev pub choice_at : ℕ → Choice
choice_at place = if place == 0 then First else Fallback

abbrev pub arrow : Network → Bool → ℕ → ℕ → ℕ → Arrow
arrow t refused n place l = record { link = l; from = n; to = other_end t n l; choice = choice_at place; is_refused = refused }

abbrev pub arrows_of : Network → List RowRefusal → ℕ → Route → List Arrow
arrows_of t found n r = by_place (arrow t (speaks_of (is_route t r) found) n) 0 r.links

-- those of the route row in force at a node
abbrev pub arrows_at : Network → Option (List ℕ) → List RowRefusal → ℕ → List Arrow
arrows_at t class found n = option_map_or (arrows_of t found n) (route_in t class n) []

-- and at the first so many nodes
abbrev pub arrows_below : Network → Option (List ℕ) → List RowRefusal → ℕ → List Arrow
arrows_below t class found zero = []
arrows_below t class found (suc n) = arrows_below t class found n ++ arrows_at t class found n

-- nodes, links and routes at a class, with these refusals
abbrev pub drawn_at : Network → List Rank → Option (List ℕ) → List RowRefusal → Drawn
drawn_at t cert class found = record {
  class = class;
  size = picture_size (ranks_in t cert class);
  boxes = node_boxes t cert class found;
  links = link_lines t found;
  arrows = arrows_below t class found (length t.nodes);
}
