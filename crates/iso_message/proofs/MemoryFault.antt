-- Which fault is that of memory.
use Rattle.std.proofs.Common.{◌≡◌, true, refl}
use Rattle.std.proofs.lemmas.Bool.{false≢true}
use Rattle.message_elements.specs.declared.fault.DecodeFault.{DecodeFault}
use Rattle.message_elements.specs.declared.fault.DecodeFault.TheVariants.{Short, BadType, BitMap, Element, Length, Character, Trailing, Memory}
use Rattle.iso_message.specs.Messages.{is_memory}

pub memory_is : (e : DecodeFault) → is_memory e ≡ true → e ≡ Memory
memory_is Memory h = refl
memory_is Short h = absurd (false≢true h)
memory_is BadType h = absurd (false≢true h)
memory_is BitMap h = absurd (false≢true h)
memory_is (Element n) h = absurd (false≢true h)
memory_is (Length n) h = absurd (false≢true h)
memory_is (Character n) h = absurd (false≢true h)
memory_is Trailing h = absurd (false≢true h)
