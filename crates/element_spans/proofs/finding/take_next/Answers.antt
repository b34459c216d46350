use Rattle.std.proofs.Common.{◌≡◌, ◌≤◌, false, Ok, length, take, arith}
use Rattle.std.proofs.lemmas.List.{length-take-le}
use Rattle.message_elements.specs.Table.{form_of}
use Rattle.iso_message.specs.Elements.{field_at}
use Rattle.iso_message.specs.Spelling.{is_binary}
use Rattle.message_text.proofs.RoomLemmas.{plain_room}
use Rattle.message_text.proofs.RowLemmas.{of_some}
use Rattle.element_spans.proofs.SpanLemmas.{few_digits}
use Rattle.element_spans.proofs.finding.take_next.Goals as goal

pub returns-in-Some-clause-end : goal.returns-in-Some-clause-end
returns-in-Some-clause-end c =
    let n = c.args.number in
    let plain = of_some _ (λ _. is_binary (form_of n) ≡ false) c.in-Some.is c.in_ok-size.ensures.variant in
    let size = of_some _ (λ y. y.1 ≤ length y.0.now) c.in-Some.is c.in_ok-size.ensures.size in
    let found = of_some _ (λ y. field_at (form_of n) n c.args.left.now.bytes ≡ Ok (take y.1 y.0.now, c.take_plain.new.self.bytes)) c.in-Some.is c.in_ok-size.ensures.value in
    omega (arith, c.length_digits.ensures, few_digits (form_of n), plain_room n _ _ _ plain found, length-take-le c.in-Some.size c.in-Some.field-0-0.now size)
