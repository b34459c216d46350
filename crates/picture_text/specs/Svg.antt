-- A picture as SVG. Names are letters and digits, so nothing has to be escaped.
use Rattle.std.specs.Prelude.{ℕ, ◌+◌, Bool, false, List, [], ◌∷◌, ◌++◌, codes, Option, Some, None, if◌then◌else◌}
use Rattle.std.specs.Fmt.{decimal}
use Rattle.std.specs.List.{concat, flat_map}
use Rattle.std.specs.Option.{option_map_or}
use Rattle.card_digits.specs.Digits.{digits_text}
use Rattle.picture_text.specs.Picture.{Drawn}
use Rattle.picture_text.specs.Curve.{curve_between, curve_text, label}
use Rattle.picture_text.specs.declared.parts.NodeBox.{NodeBox}
use Rattle.picture_text.specs.declared.parts.Size.{Size}
use Rattle.picture_text.specs.declared.parts.StandInMark.{StandInMark}
use Rattle.picture_text.specs.declared.parts.LinkLine.{LinkLine}
use Rattle.picture_text.specs.declared.parts.Arrow.{Arrow}
use Rattle.picture_text.specs.declared.parts.Choice.{Choice}
use Rattle.picture_text.specs.declared.parts.Choice.TheVariants.{First, Fallback}

abbrev pub Text : Type 0
Text = List ℕ

-- red where the row is refused
abbrev pub stroke_text : Bool → Text
stroke_text refused = if refused then codes " stroke='#d00'" else []

abbrev pub fill_text : Bool → Text
fill_text refused = if refused then codes " fill='#d00'" else []

-- a link as a line, with its name and ticks where one points at it
abbrev pub link_line : List NodeBox → LinkLine → Text
link_line boxes l = option_map_or (λ c. concat (codes "<path d='" ∷ curve_text c ∷ codes "'" ∷ stroke_text l.is_refused ∷ codes "><title>" ∷ l.name ∷ codes " " ∷ decimal l.ticks ∷ codes "</title></path>\n" ∷ [])) (curve_between boxes l.from l.to) []

-- its name and its ticks
abbrev pub link_label : List NodeBox → LinkLine → Text
link_label boxes l = option_map_or (λ c. concat (codes "<text x='" ∷ decimal (label c l.link).left ∷ codes "' y='" ∷ decimal (label c l.link).top ∷ codes "'" ∷ fill_text l.is_refused ∷ codes ">" ∷ l.name ∷ codes " " ∷ decimal l.ticks ∷ codes "</text>\n" ∷ [])) (curve_between boxes l.from l.to) []

-- an arrow is dashed where its link is a fallback
abbrev pub dash_text : Choice → Text
dash_text First = []
dash_text Fallback = codes " stroke-dasharray='6 4'"

abbrev pub tip_text : Bool → Text
tip_text refused = if refused then codes " stroke='#d00' marker-end='url(#refused)'" else []

abbrev pub arrow_line : List NodeBox → Arrow → Text
arrow_line boxes a = option_map_or (λ c. concat (codes "<path d='" ∷ curve_text c ∷ codes "'" ∷ dash_text a.choice ∷ tip_text a.is_refused ∷ codes "/>\n" ∷ [])) (curve_between boxes a.from a.to) []

abbrev pub link_lines : List NodeBox → List LinkLine → Text
link_lines boxes links = flat_map (link_line boxes) links

abbrev pub link_labels : List NodeBox → List LinkLine → Text
link_labels boxes links = flat_map (link_label boxes) links

abbrev pub arrow_lines : List NodeBox → List Arrow → Text
arrow_lines boxes arrows = flat_map (arrow_line boxes) arrows

-- what stands in a box: the name, the id, the rank, and the day of the stand-in row
abbrev pub rank_text : Option ℕ → Text
rank_text None = codes "no rank"
rank_text (Some rank) = codes "rank " ++ decimal rank

abbrev pub home_text : Bool → Text
home_text home = if home then codes ", home" else []

abbrev pub day_text : Option StandInMark → Text
day_text None = []
day_text (Some s) = codes "day " ++ decimal s.day

abbrev pub is_day_refused : Option StandInMark → Bool
is_day_refused None = false
is_day_refused (Some s) = s.is_refused

-- where a line of a box begins, so far below its upper side
abbrev pub line_start : NodeBox → ℕ → Text
line_start b below = concat (codes "<text x='" ∷ decimal (b.corner.left + 6) ∷ codes "' y='" ∷ decimal (b.corner.top + below) ∷ codes "'" ∷ [])

abbrev pub frame : NodeBox → Text
frame b = concat (codes "<rect x='" ∷ decimal b.corner.left ∷ codes "' y='" ∷ decimal b.corner.top ∷ codes "'" ∷ stroke_text b.is_refused ∷ codes " width='110' height='62'/>\n" ∷ [])

abbrev pub name_line : NodeBox → Text
name_line b = concat (line_start b 14 ∷ codes " font-weight='bold'>" ∷ b.name ∷ codes "</text>\n" ∷ [])

abbrev pub id_line : NodeBox → Text
id_line b = concat (line_start b 28 ∷ codes ">" ∷ b.id ∷ codes "</text>\n" ∷ [])

abbrev pub rank_line : NodeBox → Text
rank_line b = concat (line_start b 42 ∷ codes ">" ∷ rank_text b.rank ∷ home_text b.is_home ∷ codes "</text>\n" ∷ [])

abbrev pub day_line : NodeBox → Text
day_line b = concat (line_start b 56 ∷ fill_text (is_day_refused b.stand_in) ∷ codes ">" ∷ day_text b.stand_in ∷ codes "</text>\n" ∷ [])

abbrev pub box_text : NodeBox → Text
box_text b = concat (name_line b ∷ id_line b ∷ rank_line b ∷ day_line b ∷ [])

abbrev pub frames : List NodeBox → Text
frames boxes = flat_map frame boxes

abbrev pub box_texts : List NodeBox → Text
box_texts boxes = flat_map box_text boxes

-- how large the picture is
abbrev pub opening : Size → Text
opening s = concat (codes "<svg xmlns='http://www.w3.org/2000/svg'" ∷ codes " width='" ∷ decimal s.width ∷ codes "' height='" ∷ decimal s.height ∷ codes "'\n" ∷ [])

-- the letters, the ground, and the beginning of the verdict's line
abbrev pub page : Text
page = concat (codes "font-family='sans-serif' font-size='11'>\n" ∷ codes "<rect width='100%' height='100%' fill='white'/>\n" ∷ codes "<text x='20' y='22' font-size='14'>" ∷ [])

-- what stands before the verdict
abbrev pub svg_head : Size → Text
svg_head s = opening s ++ page

abbrev pub class_text : Option (List ℕ) → Text
class_text None = codes "no class"
class_text (Some class) = codes "class " ++ digits_text class

-- how the heads of arrows look
abbrev pub marker_shape : Text
marker_shape = concat (codes " stroke='none' markerUnits='userSpaceOnUse' orient='auto'\n" ∷ codes "markerWidth='9' markerHeight='8' refX='9' refY='4'>" ∷ codes "<path d='M0 0L9 4L0 8z'/></marker>\n" ∷ [])

abbrev pub markers : Text
markers = concat (codes "<marker id='tip' fill='#06c'" ∷ marker_shape ∷ codes "<marker id='refused' fill='#d00'" ∷ marker_shape ∷ [])

-- links, arrows, labels and boxes, one above the other
abbrev pub svg_links : Drawn → Text
svg_links p = concat (codes "<g fill='none' stroke='#aaa'>\n" ∷ link_lines p.boxes p.links ∷ codes "</g>\n" ∷ [])

abbrev pub svg_arrows : Drawn → Text
svg_arrows p = concat (codes "<g fill='none' stroke='#06c' stroke-width='1.5'" ∷ codes " marker-end='url(#tip)'>\n" ∷ arrow_lines p.boxes p.arrows ∷ codes "</g>\n" ∷ [])

abbrev pub svg_boxes : Drawn → Text
svg_boxes p = concat (codes "<g fill='white' stroke='black'>\n" ∷ frames p.boxes ∷ codes "</g>\n" ∷ box_texts p.boxes ∷ [])

abbrev pub svg_labels : Drawn → Text
svg_labels p = concat (codes "<g text-anchor='middle' fill='#555' stroke='white'" ∷ codes " stroke-width='3' paint-order='stroke'>\n" ∷ link_labels p.boxes p.links ∷ codes "</g>\n" ∷ [])

abbrev pub class_line : Option (List ℕ) → Text
class_line class = concat (codes "</text>\n<text x='20' y='40' font-size='14'>" ∷ class_text class ∷ codes "</text>\n" ∷ [])

abbrev pub legend : Text
legend = concat (codes "<text x='20' y='57' fill='#555'>solid: first link of a route; " ∷ codes "dashed: fallback; grey: link with its ticks; " ∷ codes "red: refused</text>\n" ∷ [])

-- what stands behind the verdict
abbrev pub svg_body : Drawn → Text
svg_body p = concat (class_line p.class ∷ legend ∷ markers ∷ svg_links p ∷ svg_arrows p ∷ svg_labels p ∷ svg_boxes p ∷ codes "</svg>\n" ∷ [])
