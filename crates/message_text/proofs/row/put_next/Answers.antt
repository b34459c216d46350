use Rattle.std.proofs.Common.{◌≡◌, ◌≤◌, false, Ok, length, take, arith}
use Rattle.std.proofs.lemmas.List.{length-take-le}
use Rattle.message_elements.specs.Table.{form_of}
use Rattle.iso_message.specs.Elements.{field_at}
use Rattle.iso_message.specs.Spelling.{is_binary}
use Rattle.message_text.proofs.RoomLemmas.{plain_room}
use Rattle.message_text.proofs.RowLemmas.{of_some}
use Rattle.message_text.proofs.row.put_next.Goals as goal

pub put_plain-requires-clause-room : goal.put_plain-requires-clause-room
put_plain-requires-clause-room c =
    let n = c.args.number in
    let plain = of_some _ (λ _. is_binary (form_of n) ≡ false) c.in-Some.is c.in_ok-front.ensures.variant in
    let size = of_some _ (λ y. y.1 ≤ length y.0.now) c.in-Some.is c.in_ok-front.ensures.size in
    let found = of_some _ (λ y. field_at (form_of n) n c.args.unread.now.bytes ≡ Ok (take y.1 y.0.now, c.take_plain.new.self.bytes)) c.in-Some.is c.in_ok-front.ensures.value in
    omega (arith, c.requires.room, plain_room n _ _ _ plain found, length-take-le c.in-Some.size c.in-Some.front.now size)

pub returns-in-Some-clause-end : goal.returns-in-Some-clause-end
returns-in-Some-clause-end c =
    let n = c.args.number in
    let plain = of_some _ (λ _. is_binary (form_of n) ≡ false) c.in-Some.is c.in_ok-front.ensures.variant in
    let size = of_some _ (λ y. y.1 ≤ length y.0.now) c.in-Some.is c.in_ok-front.ensures.size in
    let found = of_some _ (λ y. field_at (form_of n) n c.args.unread.now.bytes ≡ Ok (take y.1 y.0.now, c.take_plain.new.self.bytes)) c.in-Some.is c.in_ok-front.ensures.value in
    omega (arith, c.put_plain.ensures.end, plain_room n _ _ _ plain found, length-take-le c.in-Some.size c.in-Some.front.now size)
