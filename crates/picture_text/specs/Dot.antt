-- A picture in DOT, the language of Graphviz. Names are letters and digits, so nothing has to be escaped.
use Rattle.std.specs.Prelude.{ℕ, Bool, List, [], ◌∷◌, codes, Option, Some, None, if◌then◌else◌}
use Rattle.std.specs.Fmt.{decimal}
use Rattle.std.specs.List.{concat, flat_map}
use Rattle.picture_text.specs.Picture.{Drawn}
use Rattle.picture_text.specs.Svg.{Text, class_text, rank_text, home_text}
use Rattle.picture_text.specs.declared.parts.NodeBox.{NodeBox}
use Rattle.picture_text.specs.declared.parts.StandInMark.{StandInMark}
use Rattle.picture_text.specs.declared.parts.LinkLine.{LinkLine}
use Rattle.picture_text.specs.declared.parts.Arrow.{Arrow}
use Rattle.picture_text.specs.declared.parts.Choice.{Choice}
use Rattle.picture_text.specs.declared.parts.Choice.TheVariants.{First, Fallback}

-- red where the row is refused
abbrev pub red_text : Bool → Text
red_text refused = if refused then codes ",color=red" else []

abbrev pub font_text : Bool → Text
font_text refused = if refused then codes "<br/><font color='red'>day " else codes "<br/><font>day "

abbrev pub stand_in_text : Option StandInMark → Text
stand_in_text None = []
stand_in_text (Some s) = concat (font_text s.is_refused ∷ decimal s.day ∷ codes "</font>" ∷ [])

-- the name and id of a node, its rank, and the day of its stand-in row
abbrev pub node_label : NodeBox → Text
node_label b = concat (b.name ∷ codes "<br/>" ∷ b.id ∷ codes "<br/>" ∷ rank_text b.rank ∷ home_text b.is_home ∷ stand_in_text b.stand_in ∷ [])

-- a node by its place in the tables
abbrev pub node_text : NodeBox → Text
node_text b = concat (codes "n" ∷ decimal b.node ∷ codes " [shape=box" ∷ red_text b.is_refused ∷ codes ",label=<" ∷ node_label b ∷ codes ">]\n" ∷ [])

-- from one node to another
abbrev pub edge_text : ℕ → ℕ → Text
edge_text from to = concat (codes "n" ∷ decimal from ∷ codes " -> n" ∷ decimal to ∷ [])

abbrev pub link_text : LinkLine → Text
link_text l = concat (edge_text l.from l.to ∷ codes " [dir=none,constraint=false,color=gray" ∷ red_text l.is_refused ∷ codes ",label=<" ∷ l.name ∷ codes " " ∷ decimal l.ticks ∷ codes ">]\n" ∷ [])

-- an arrow is dashed where its link is a fallback
abbrev pub style_text : Choice → Text
style_text First = codes "solid"
style_text Fallback = codes "dashed"

abbrev pub arrow_text : Arrow → Text
arrow_text a = concat (edge_text a.from a.to ∷ codes " [color=blue" ∷ red_text a.is_refused ∷ codes ",style=" ∷ style_text a.choice ∷ codes "]\n" ∷ [])

abbrev pub node_texts : List NodeBox → Text
node_texts boxes = flat_map node_text boxes

abbrev pub link_texts : List LinkLine → Text
link_texts links = flat_map link_text links

abbrev pub arrow_texts : List Arrow → Text
arrow_texts arrows = flat_map arrow_text arrows

-- what stands before the verdict
abbrev pub dot_head : Text
dot_head = codes "digraph network {\nrankdir=LR\nlabelloc=t\nlabel=<"

-- what stands behind the verdict
abbrev pub dot_body : Drawn → Text
dot_body p = concat (codes "<br/>" ∷ class_text p.class ∷ codes ">\n" ∷ node_texts p.boxes ∷ link_texts p.links ∷ arrow_texts p.arrows ∷ codes "}\n" ∷ [])
