-- Lines that are written as a message is read.
use Rattle.std.specs.Prelude.{◌≡◌, ℕ, List, [], ◌++◌, Ok}
use Rattle.message_elements.specs.declared.kind.Kind.{Kind}
use Rattle.message_elements.specs.Table.{form_of}
use Rattle.iso_message.specs.Elements.{field_at}
use Rattle.iso_message.specs.Fields.{Fields}
use Rattle.iso_message.specs.Messages.{read}
use Rattle.iso_message.specs.Unread.{Left, read_on}
use Rattle.message_text.specs.Printed.{element_line, element_lines, heading, message_lines}

-- the element that bytes begin with stands behind a text, and the rest is left
pub record WritesElement (number : ℕ) (bytes rest old new : List ℕ) : Type 0 where
  pub value : List ℕ
  pub found : field_at (form_of number) number bytes ≡ Ok (value, rest)
  pub text : new ≡ old ++ element_line (number, value)

-- so do the elements that are left of a message
pub record WritesLeft (left : Left) (old new : List ℕ) : Type 0 where
  pub elements : List (ℕ × List ℕ)
  pub found : (kind : Kind) → read_on kind [] left ≡ Ok (record { kind = kind; elements = elements })
  pub text : new ≡ old ++ element_lines elements

-- the lines of the message that bytes spell
pub record WritesMessage (number : ℕ) (bytes new : List ℕ) : Type 0 where
  pub message : Fields
  pub found : read bytes ≡ Ok message
  pub text : new ≡ heading number ++ message_lines message
