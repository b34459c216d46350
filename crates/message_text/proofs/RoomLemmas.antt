-- The lines of a message's elements have room.
use Rattle.std.proofs.Common.{◌≡◌, ℕ, zero, suc, ◌+◌, ◌-◌, ◌≤◌, true, false, List, [], ◌∷◌, length, Option, Some, None, Ok, refl, ap, arith}
use Rattle.message_elements.specs.declared.form.Form.{Form}
use Rattle.message_elements.specs.declared.form.Form.TheVariants.{Fixed, Llvar, Lllvar, Binary}
use Rattle.message_elements.specs.Table.{form_of}
use Rattle.iso_message.specs.Elements.{field_at}
use Rattle.iso_message.specs.Spelling.{Ascends, IsGood, is_binary}
use Rattle.iso_message.proofs.Good.{good}
use Rattle.iso_message.proofs.Pieces.{field_takes}
use Rattle.message_text.specs.Room.{value_room, line_room, lines_room}

-- the room of the k last elements
room_of : ℕ → ℕ
room_of zero = 0
room_of (suc k) = line_room (128 - k) + room_of k

grows : (k j : ℕ) → room_of k ≤ room_of (j + k)
unfolding room_of
grows k zero = let e : 0 + k ≡ k = omega arith in omega (arith, ap room_of e)
grows k (suc j) =
    let e : suc j + k ≡ suc (j + k) = omega arith in
    let step : room_of (suc (j + k)) ≡ line_room (128 - (j + k)) + room_of (j + k) = refl in
    omega (arith, ap room_of e, step, grows k j)

next_last : (n : ℕ) → n ≤ 128 → 128 - (128 - n) ≡ n
next_last n h = omega (arith, h)

-- elements above a number take no more than all above it
above : (low : ℕ) (ns : List ℕ) → Ascends low 128 ns → lines_room ns ≤ room_of (128 - low)
unfolding room_of form_of
above low [] h = omega arith
above low (n ∷ ns) h =
    let rest : lines_room ns ≤ room_of (128 - n) = above n ns h.2 in
    let here : room_of (suc (128 - n)) ≡ line_room n + room_of (128 - n) = ap (λ m. line_room m + room_of (128 - n)) (next_last n h.1) in
    let j = (128 - low) - suc (128 - n) in
    let more : room_of (suc (128 - n)) ≤ room_of (j + suc (128 - n)) = grows (suc (128 - n)) j in
    let all : j + suc (128 - n) ≡ 128 - low = omega (arith, h.0, h.1) in
    omega (arith, rest, here, more, ap room_of all)

whole : room_of 127 ≤ 14000
unfolding room_of form_of
whole = let e : room_of 127 ≡ 13538 = refl in omega (arith, e)

-- all elements of a message together
pub few_lines : (ns : List ℕ) → Ascends 1 128 ns → lines_room ns ≤ 14000
few_lines ns h = omega (arith, above 1 ns h, whole)

by_form : (form : Option Form) (v : List ℕ) → is_binary form ≡ false → IsGood form v → length v ≤ value_room form
by_form None v plain h = absurd h
by_form (Some (Fixed class size)) v plain h = omega (arith, h.0)
by_form (Some (Llvar class most)) v plain h = h.0
by_form (Some (Lllvar class most)) v plain h = h.0
by_form (Some Binary) v plain h = absurd cc

-- a value that isn't printed as digits has room
pub plain_room : (n : ℕ) (bytes v rest : List ℕ) → is_binary (form_of n) ≡ false → field_at (form_of n) n bytes ≡ Ok (v, rest) → length v ≤ value_room (form_of n)
plain_room n bytes v rest plain found =
    let taken = field_takes (form_of n) n bytes v rest found in
    by_form (form_of n) v plain (good (form_of n) v taken.0 taken.2)

binary_form : (form : Option Form) → is_binary form ≡ true → value_room form ≡ 16
binary_form None h = absurd cc
binary_form (Some (Fixed class size)) h = absurd cc
binary_form (Some (Llvar class most)) h = absurd cc
binary_form (Some (Lllvar class most)) h = absurd cc
binary_form (Some Binary) h = refl

pub binary_room : (n : ℕ) → is_binary (form_of n) ≡ true → line_room n ≡ 21
binary_room n h = ap (λ k. k + 5) (binary_form (form_of n) h)
