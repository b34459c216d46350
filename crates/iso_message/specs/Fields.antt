-- A message as a type and its elements, and what is read of it and changed in it.
use Rattle.std.specs.Prelude.{ℕ, Bool, List, [], Option, unwrap_or, is_some}
use Rattle.message_elements.specs.declared.kind.Kind.{Kind}
use Rattle.iso_message.specs.Finding.{find_element, put, without}

-- the elements stand in ascending order of number, each with its bytes
pub record Fields : Type 0 where
  pub kind : Kind
  pub elements : List (ℕ × List ℕ)

unfoldable pub get : Fields → ℕ → Option (List ℕ)
get m n = find_element n m.elements

unfoldable pub has : Fields → ℕ → Bool
unfolding get
has m n = is_some (get m n)

-- the bytes of an element, none where it is absent
unfoldable pub el : Fields → ℕ → List ℕ
unfolding get
el m n = unwrap_or (get m n) []

unfoldable pub set_element : Fields → ℕ → List ℕ → Fields
unfolding put
set_element m n value = record { kind = m.kind; elements = put n value m.elements }

unfoldable pub remove_element : Fields → ℕ → Fields
unfolding without
remove_element m n = record { kind = m.kind; elements = without n m.elements }

-- the same elements under another type
abbrev pub as_kind : Kind → Fields → Fields
as_kind kind m = record { kind = kind; elements = m.elements }
