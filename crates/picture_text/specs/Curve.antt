-- The ways of links and arrows between boxes.
use Rattle.std.specs.Prelude.{ℕ, ◌+◌, ◌-◌, ◌*◌, ◌/◌, ◌%◌, ◌==◌, nat_lt, List, [], ◌∷◌, codes, Option, option_map, option_and_then, slice_get, if◌then◌else◌}
use Rattle.std.specs.Fmt.{decimal}
use Rattle.std.specs.List.{concat}
use Rattle.picture_text.specs.declared.parts.Corner.{Corner}
use Rattle.picture_text.specs.declared.parts.NodeBox.{NodeBox}
use Rattle.picture_text.specs.declared.curve.Point.{Point}
use Rattle.picture_text.specs.declared.curve.Curve.{Curve}

-- a place on a box's left or right side, so far below its upper side
abbrev pub left_side : Corner → ℕ → Point
left_side c below = record { left = c.left; top = c.top + below }

abbrev pub right_side : Corner → ℕ → Point
right_side c below = record { left = c.left + 110; top = c.top + below }

-- to a box further right or left, with 10 pixels straight out of each box; those to the left lie lower
abbrev pub rightwards : Corner → Corner → Curve
rightwards a b = record { start = right_side a 26; out = a.left + 120; back = b.left - 10; end = left_side b 26 }

abbrev pub leftwards : Corner → Corner → Curve
leftwards a b = record { start = left_side a 36; out = a.left - 10; back = b.left + 120; end = right_side b 36 }

-- between boxes in one column, out on the right and back
abbrev pub around : Corner → Corner → Curve
around a b = record { start = right_side a 26; out = a.left + 170; back = a.left + 170; end = right_side b 36 }

abbrev pub curve : Corner → Corner → Curve
curve a b =
    if nat_lt a.left b.left then rightwards a b
    else if nat_lt b.left a.left then leftwards a b
    else around a b

-- between two nodes, if both are there
abbrev pub curve_between : List NodeBox → ℕ → ℕ → Option Curve
curve_between boxes from to = option_and_then (λ (a : NodeBox). option_map (λ (b : NodeBox). curve a.corner b.corner) (slice_get boxes to)) (slice_get boxes from)

-- as the path of an SVG: three lines
abbrev pub curve_text : Curve → List ℕ
curve_text c = concat (codes "M" ∷ decimal c.start.left ∷ codes " " ∷ decimal c.start.top ∷ codes "L" ∷ decimal c.out ∷ codes " " ∷ decimal c.start.top ∷ codes " " ∷ decimal c.back ∷ codes " " ∷ decimal c.end.top ∷ codes " " ∷ decimal c.end.left ∷ codes " " ∷ decimal c.end.top ∷ [])

-- a quarter, half or three quarters of the way
abbrev pub part : ℕ → ℕ → ℕ → ℕ
part third a b =
    if third == 0 then (3 * a + b) / 4
    else if third == 1 then (a + b) / 2
    else (a + 3 * b) / 4

-- where the label of a link stands: at one of three places on its way
abbrev pub label : Curve → ℕ → Point
label c link = record { left = part (link % 3) c.out c.back; top = part (link % 3) c.start.top c.end.top }
