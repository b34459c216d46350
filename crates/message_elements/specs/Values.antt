-- Which values elements take.
use Rattle.std.specs.Prelude.{◌≡◌, ℕ, Bool, true, ◌&&◌, ◌==◌, nat_le, List, length, Option, Some, None, if◌then◌else◌}
use Rattle.std.specs.Char.{is_ascii_digit}
use Rattle.std.specs.List.{list_all}
use Rattle.message_elements.specs.declared.form.Class.{Class}
use Rattle.message_elements.specs.declared.form.Class.TheVariants.{Digits, Text}
use Rattle.message_elements.specs.declared.form.Form.{Form}
use Rattle.message_elements.specs.declared.form.Form.TheVariants.{Fixed, Llvar, Lllvar, Binary}
use Rattle.message_elements.specs.declared.fault.DecodeFault.{DecodeFault}
use Rattle.message_elements.specs.declared.fault.DecodeFault.TheVariants as faults

abbrev pub fits : Class → ℕ → Bool
fits Digits b = is_ascii_digit b
fits Text b = nat_le 32 b && nat_le b 126

-- of the class
abbrev pub AreOf : Class → List ℕ → Type 0
AreOf class bytes = list_all (fits class) bytes ≡ true

-- what is wrong with a value of a class, of which the length is right or not
abbrev pub value_fault : Bool → Class → ℕ → List ℕ → Option DecodeFault
value_fault long class n value = if long then (if list_all (fits class) value then None else Some (faults.Character n)) else Some (faults.Length n)

-- what is wrong with a value for an element of a form
abbrev pub set_fault : Option Form → ℕ → List ℕ → Option DecodeFault
set_fault None n value = Some (faults.Element n)
set_fault (Some (Fixed class size)) n value = value_fault (length value == size) class n value
set_fault (Some (Llvar class most)) n value = value_fault (nat_le (length value) most) class n value
set_fault (Some (Lllvar class most)) n value = value_fault (nat_le (length value) most) class n value
set_fault (Some Binary) n value = if length value == 8 then None else Some (faults.Length n)
