-- The element of a number that bytes begin with, and where its value stands.
use Rattle.std.specs.Prelude.{◌≡◌, ℕ, List, take, drop, Result, Ok, Err}
use Rattle.message_elements.specs.declared.fault.DecodeFault.{DecodeFault}
use Rattle.iso_message.specs.Elements.{content_at, element_at}
use Rattle.iso_message.specs.declared.unread.Head.{Head}

-- the element of the number has this value, and these bytes come after it
abbrev pub HasValue : ℕ → List ℕ → List ℕ → List ℕ → Type 0
HasValue n bytes value rest = element_at n bytes ≡ Ok (value, rest)

-- this is wrong with it
abbrev pub HasFault : ℕ → List ℕ → DecodeFault → Type 0
HasFault n bytes fault = element_at n bytes ≡ Err fault

-- the value that a head leads to, and the bytes after it; or what is wrong with it
abbrev pub value_behind : Head → ℕ → Result (List ℕ × List ℕ) DecodeFault
value_behind head n = content_at head.class head.size n head.front.now

-- its bytes and those after them, where nothing is
abbrev pub parted : Head → List ℕ × List ℕ
parted head = (take head.size head.front.now, drop head.size head.front.now)

-- the element of the number has the value that the head leads to
abbrev pub HasHead : ℕ → List ℕ → Head → Type 0
HasHead n bytes head = element_at n bytes ≡ value_behind head n
