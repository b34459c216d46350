-- The table of elements (ISO 8583:1987), line by line.
use Rattle.std.specs.Prelude.{ℕ, nat_le, ◌&&◌, List, [], ◌∷◌, Option, Some, None, if◌then◌else◌}
use Rattle.message_elements.specs.declared.form.Class.TheVariants.{Digits, Text}
use Rattle.message_elements.specs.declared.form.Form.{Form}
use Rattle.message_elements.specs.declared.form.Form.TheVariants.{Fixed, Llvar, Lllvar, Binary}

-- elements from first to last have the form
pub record Row : Type 0 where
  pub first : ℕ
  pub last : ℕ
  pub form : Form

abbrev elements : ℕ → ℕ → Form → Row
elements first last form = record { first = first; last = last; form = form }

unfoldable pub table : List Row
table =
    elements 2 2 (Llvar Digits 19) ∷
    elements 3 3 (Fixed Digits 6) ∷
    elements 4 6 (Fixed Digits 12) ∷
    elements 7 7 (Fixed Digits 10) ∷
    elements 8 10 (Fixed Digits 8) ∷
    elements 11 12 (Fixed Digits 6) ∷
    elements 13 18 (Fixed Digits 4) ∷
    elements 19 24 (Fixed Digits 3) ∷
    elements 25 26 (Fixed Digits 2) ∷
    elements 27 27 (Fixed Digits 1) ∷
    elements 28 31 (Fixed Text 9) ∷
    elements 32 33 (Llvar Digits 11) ∷
    elements 34 34 (Llvar Text 28) ∷
    elements 35 35 (Llvar Text 37) ∷
    elements 36 36 (Lllvar Text 104) ∷
    elements 37 37 (Fixed Text 12) ∷
    elements 38 38 (Fixed Text 6) ∷
    elements 39 39 (Fixed Text 2) ∷
    elements 40 40 (Fixed Text 3) ∷
    elements 41 41 (Fixed Text 8) ∷
    elements 42 42 (Fixed Text 15) ∷
    elements 43 43 (Fixed Text 40) ∷
    elements 44 44 (Llvar Text 25) ∷
    elements 45 45 (Llvar Text 76) ∷
    elements 46 48 (Lllvar Text 999) ∷
    elements 49 51 (Fixed Text 3) ∷
    elements 52 52 Binary ∷
    elements 53 53 (Fixed Digits 16) ∷
    elements 54 54 (Lllvar Text 120) ∷
    elements 55 63 (Lllvar Text 999) ∷
    elements 64 64 Binary ∷
    elements 70 70 (Fixed Digits 3) ∷
    elements 90 90 (Fixed Digits 42) ∷
    elements 95 95 (Fixed Text 42) ∷
    elements 100 100 (Llvar Digits 11) ∷
    elements 102 103 (Llvar Text 28) ∷
    elements 128 128 Binary ∷
    []

-- the form that the rows give a number
abbrev pub form_in : List Row → ℕ → Option Form
form_in [] n = None
form_in (r ∷ rs) n = if nat_le r.first n && nat_le n r.last then Some r.form else form_in rs n

-- the form of an element, none where it is not in the table
unfoldable pub form_of : ℕ → Option Form
unfolding table
form_of n = form_in table n
