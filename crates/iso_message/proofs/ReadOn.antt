-- Elements that are read one after the other.
use Rattle.std.proofs.Common.{◌≡◌, ℕ, true, false, eqb, List, [], ◌∷◌, ◌++◌, length, Ok, Err, refl, sym}
use Rattle.message_elements.specs.declared.kind.Kind.{Kind}
use Rattle.message_elements.specs.declared.fault.DecodeFault.{DecodeFault}
use Rattle.message_elements.specs.declared.fault.DecodeFault.TheVariants.{Trailing}
use Rattle.message_elements.specs.Table.{form_of}
use Rattle.iso_message.specs.Elements.{field_at, with_next, with_all}
use Rattle.iso_message.specs.Unread.{Left, read_on}

-- the next element's number was taken, and then its bytes
pub on_element : (kind : Kind) (es : List (ℕ × List ℕ)) (n : ℕ) (value : List ℕ) (left taken new : Left) → left.numbers ≡ n ∷ taken.numbers → taken.bytes ≡ left.bytes → new.numbers ≡ taken.numbers → field_at (form_of n) n taken.bytes ≡ Ok (value, new.bytes)
    → read_on kind es left ≡ read_on kind (es ++ (n, value) ∷ []) new
unfolding read_on with_all with_next
on_element kind es n value left taken new numbers bytes same found = rw (numbers, sym bytes, same, found) refl

-- the next element has a fault
pub on_fault : (kind : Kind) (es : List (ℕ × List ℕ)) (n : ℕ) (fault : DecodeFault) (left taken : Left) → left.numbers ≡ n ∷ taken.numbers → taken.bytes ≡ left.bytes → field_at (form_of n) n taken.bytes ≡ Err fault → read_on kind es left ≡ Err fault
unfolding read_on with_all with_next
on_fault kind es n fault left taken numbers bytes found = rw (numbers, sym bytes, found) refl

-- all elements were taken, and all bytes
pub at_end : (kind : Kind) (es : List (ℕ × List ℕ)) (left : Left) → left.numbers ≡ [] → eqb (length left.bytes) 0 ≡ true → read_on kind es left ≡ Ok (record { kind = kind; elements = es })
unfolding read_on with_all
at_end kind es left numbers none = rw (numbers, none) refl

-- bytes are left over
pub left_over : (kind : Kind) (es : List (ℕ × List ℕ)) (left : Left) → left.numbers ≡ [] → eqb (length left.bytes) 0 ≡ false → read_on kind es left ≡ Err Trailing
unfolding read_on with_all
left_over kind es left numbers some = rw (numbers, some) refl
