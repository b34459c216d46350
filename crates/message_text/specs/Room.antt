-- How much of a row the lines of elements take at most.
use Rattle.std.specs.Prelude.{ℕ, ◌+◌, List, [], ◌∷◌, Option, Some, None}
use Rattle.message_elements.specs.Table.{form_of}
use Rattle.message_elements.specs.declared.form.Form.{Form}
use Rattle.message_elements.specs.declared.form.Form.TheVariants.{Fixed, Llvar, Lllvar, Binary}

-- the most bytes in which a value of a form is printed
abbrev pub value_room : Option Form → ℕ
value_room None = 0
value_room (Some (Fixed class size)) = size
value_room (Some (Llvar class most)) = most
value_room (Some (Lllvar class most)) = most
value_room (Some Binary) = 16

-- the most that the line of an element has: its number in three digits, a space, its value and a line feed
abbrev pub line_room : ℕ → ℕ
line_room n = value_room (form_of n) + 5

-- the lines of elements of these numbers
abbrev pub lines_room : List ℕ → ℕ
lines_room [] = 0
lines_room (n ∷ ns) = line_room n + lines_room ns
