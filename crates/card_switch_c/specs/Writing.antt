-- What is told of a message that was written.
use Rattle.std.specs.Prelude.{◌≡◌, ◌<◌, ◌⊎◌, ℕ, List, length, Some, None}
use Rattle.message_elements.specs.declared.kind.Kind.{Kind}
use Rattle.message_elements.specs.declared.fault.DecodeFault.{DecodeFault}
use Rattle.message_elements.specs.declared.fault.DecodeFault.TheVariants.{BadType}
use Rattle.message_elements.specs.Types.{kind_of}
use Rattle.iso_message.specs.Fields.{Fields}
use Rattle.iso_message.specs.Spelling.{spelling}
use Rattle.element_spans.specs.declared.span.ElementSpan.{ElementSpan}
use Rattle.element_spans.specs.Building.{IsBuilt, IsFirstFault}
use Rattle.buffer_front.specs.Fronts.{with_front}
use Rattle.card_switch_c.specs.Messages.{fault_number, fault_element}

-- the canonical bytes of the message of a type and of the values at these spans
pub record Spells (type values : List ℕ) (elements : List ElementSpan) (bytes : List ℕ) : Type 0 where
  pub kind : Kind
  pub message : Fields
  pub is_kind : kind_of type ≡ Some kind
  pub built : IsBuilt kind values elements message
  pub spelled : bytes ≡ spelling message

-- one such list of bytes was put at the front of a buffer, with nothing else changed, and it has so many
abbrev pub Writes : (List ℕ → Type 0) → List ℕ → List ℕ → ℕ → Type 0
Writes IsOne old new told = (bytes : List ℕ) × IsOne bytes × (new ≡ with_front bytes old) × (told ≡ length bytes)

-- a buffer of so many bytes is too small for one such list, which has so many
abbrev pub WantsBytes : (List ℕ → Type 0) → ℕ → ℕ → Type 0
WantsBytes IsOne size told = (bytes : List ℕ) × IsOne bytes × (size < length bytes) × (told ≡ length bytes)

-- four bytes that write no type, or the first fault of the spans
abbrev pub IsWriteFault : List ℕ → List ℕ → List ElementSpan → DecodeFault → Type 0
IsWriteFault type values elements fault = ((kind_of type ≡ None) × (fault ≡ BadType)) ⊎ IsFirstFault values elements fault

abbrev pub TellsWriteFault : List ℕ → List ℕ → List ElementSpan → ℕ → ℕ → Type 0
TellsWriteFault type values elements number element = (fault : DecodeFault) × IsWriteFault type values elements fault × (number ≡ fault_number fault) × (element ≡ fault_element fault)

abbrev pub IsWriteStatus : ℕ → Type 0
IsWriteStatus status = (status ≡ 0) ⊎ ((status ≡ 2) ⊎ ((status ≡ 3) ⊎ (status ≡ 4)))
