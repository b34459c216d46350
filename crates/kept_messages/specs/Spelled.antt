-- A message that is kept as the bytes that spell it.
use Rattle.std.specs.Prelude.{◌≡◌, ℕ, List, [], Option, Result, Ok, Err}
use Rattle.message_elements.specs.declared.fault.DecodeFault.{DecodeFault}
use Rattle.message_elements.specs.declared.kind.Kind.{Kind}
use Rattle.message_elements.specs.declared.kind.Kind.TheVariants.{K0100}
use Rattle.iso_message.specs.Fields.{Fields, get}
use Rattle.iso_message.specs.Messages.{read}
use Rattle.iso_message.specs.Spelling.{spelling}

-- what was read; of a fault a message with no elements
abbrev pub message_or_none : Result Fields DecodeFault → Fields
message_or_none (Ok m) = m
message_or_none (Err fault) = record { kind = K0100; elements = [] }

-- the message that the bytes spell
abbrev pub message_in : List ℕ → Fields
message_in bytes = message_or_none (read bytes)

-- the bytes are the spelling of a message of this type, with this response code
pub record IsSpelled (bytes : List ℕ) (kind : Kind) (code : Option (List ℕ)) : Type 0 where
  pub reads : read bytes ≡ Ok (message_in bytes)
  pub spells : bytes ≡ spelling (message_in bytes)
  pub kind_is : kind ≡ (message_in bytes).kind
  pub code_is : code ≡ get (message_in bytes) 39
