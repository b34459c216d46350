use Rattle.std.proofs.Common.{◌≡◌, Some}
use Rattle.message_elements.specs.Table.{form_of}
use Rattle.message_elements.specs.declared.form.Form.TheVariants.{Fixed, Llvar, Lllvar}
use Rattle.iso_message.specs.Parts.{IsPart}
use Rattle.iso_message.proofs.Behind.{binary_behind}
use Rattle.iso_message.proofs.PartLemmas.{fixed_part, two_part, three_part, end_of_part, end_of_binary}
use Rattle.iso_message.proofs.reading.add_next.Goals as goal

pub add-requires-clause-part : goal.add-requires-clause-part
add-requires-clause-part c =
    let f : form_of c.args.number ≡ Some (Fixed c.in-Some-Fixed.class c.in-Some-Fixed.size) = cc c.in-Some-Fixed.ensures in
    fixed_part c.in-Some-Fixed.class c.in-Some-Fixed.size c.args.number c.args.bytes.now c.in_ok-content-in-Some-Fixed.content.now c.in_ok-content-in-Some-Fixed.rest.now f c.in_ok-content-in-Some-Fixed.ensures.value

pub returns-in_ok-add-in-Some-Fixed-clause-end : goal.returns-in_ok-add-in-Some-Fixed-clause-end
returns-in_ok-add-in-Some-Fixed-clause-end c =
    let f : form_of c.args.number ≡ Some (Fixed c.in-Some-Fixed.class c.in-Some-Fixed.size) = cc c.in-Some-Fixed.ensures in
    let part : IsPart c.args.number c.args.bytes.now c.in_ok-content-in-Some-Fixed.content.now c.in_ok-content-in-Some-Fixed.rest.now = fixed_part c.in-Some-Fixed.class c.in-Some-Fixed.size c.args.number c.args.bytes.now c.in_ok-content-in-Some-Fixed.content.now c.in_ok-content-in-Some-Fixed.rest.now f c.in_ok-content-in-Some-Fixed.ensures.value in
    rw c.in_ok-add-in-Some-Fixed.ensures (end_of_part c.args.number c.args.parts.now.body c.args.bytes.now c.in_ok-content-in-Some-Fixed.content.now c.in_ok-content-in-Some-Fixed.rest.now c.requires.end part)

pub add-requires-in-Some-Llvar-clause-part : goal.add-requires-in-Some-Llvar-clause-part
add-requires-in-Some-Llvar-clause-part c =
    let f : form_of c.args.number ≡ Some (Llvar c.in-Some-Llvar.class c.in-Some-Llvar.most) = cc c.in-Some-Llvar.ensures in
    two_part c.in-Some-Llvar.class c.in-Some-Llvar.most c.args.number c.args.bytes.now c.in_ok-content-in-Some-Llvar.content.now c.in_ok-content-in-Some-Llvar.rest.now f c.in_ok-content-in-Some-Llvar.ensures.value

pub returns-in_ok-add-in-Some-Llvar-clause-end : goal.returns-in_ok-add-in-Some-Llvar-clause-end
returns-in_ok-add-in-Some-Llvar-clause-end c =
    let f : form_of c.args.number ≡ Some (Llvar c.in-Some-Llvar.class c.in-Some-Llvar.most) = cc c.in-Some-Llvar.ensures in
    let part : IsPart c.args.number c.args.bytes.now c.in_ok-content-in-Some-Llvar.content.now c.in_ok-content-in-Some-Llvar.rest.now = two_part c.in-Some-Llvar.class c.in-Some-Llvar.most c.args.number c.args.bytes.now c.in_ok-content-in-Some-Llvar.content.now c.in_ok-content-in-Some-Llvar.rest.now f c.in_ok-content-in-Some-Llvar.ensures.value in
    rw c.in_ok-add-in-Some-Llvar.ensures (end_of_part c.args.number c.args.parts.now.body c.args.bytes.now c.in_ok-content-in-Some-Llvar.content.now c.in_ok-content-in-Some-Llvar.rest.now c.requires.end part)

pub add-requires-in-Some-Lllvar-clause-part : goal.add-requires-in-Some-Lllvar-clause-part
add-requires-in-Some-Lllvar-clause-part c =
    let f : form_of c.args.number ≡ Some (Lllvar c.in-Some-Lllvar.class c.in-Some-Lllvar.most) = cc c.in-Some-Lllvar.ensures in
    three_part c.in-Some-Lllvar.class c.in-Some-Lllvar.most c.args.number c.args.bytes.now c.in_ok-content-in-Some-Lllvar.content.now c.in_ok-content-in-Some-Lllvar.rest.now f c.in_ok-content-in-Some-Lllvar.ensures.value

pub returns-in_ok-add-in-Some-Lllvar-clause-end : goal.returns-in_ok-add-in-Some-Lllvar-clause-end
returns-in_ok-add-in-Some-Lllvar-clause-end c =
    let f : form_of c.args.number ≡ Some (Lllvar c.in-Some-Lllvar.class c.in-Some-Lllvar.most) = cc c.in-Some-Lllvar.ensures in
    let part : IsPart c.args.number c.args.bytes.now c.in_ok-content-in-Some-Lllvar.content.now c.in_ok-content-in-Some-Lllvar.rest.now = three_part c.in-Some-Lllvar.class c.in-Some-Lllvar.most c.args.number c.args.bytes.now c.in_ok-content-in-Some-Lllvar.content.now c.in_ok-content-in-Some-Lllvar.rest.now f c.in_ok-content-in-Some-Lllvar.ensures.value in
    rw c.in_ok-add-in-Some-Lllvar.ensures (end_of_part c.args.number c.args.parts.now.body c.args.bytes.now c.in_ok-content-in-Some-Lllvar.content.now c.in_ok-content-in-Some-Lllvar.rest.now c.requires.end part)

pub returns-in_ok-add_binary-in-Some-Binary-clause-known : goal.returns-in_ok-add_binary-in-Some-Binary-clause-known
returns-in_ok-add_binary-in-Some-Binary-clause-known c = binary_behind c.args.known.now c.args.number c.args.bytes.now c.in_ok-value-in-Some-Binary.value c.in_ok-value-in-Some-Binary.rest.now c.in_ok-value-in-Some-Binary.ensures c.requires.known

pub returns-in_ok-add_binary-in-Some-Binary-clause-end : goal.returns-in_ok-add_binary-in-Some-Binary-clause-end
returns-in_ok-add_binary-in-Some-Binary-clause-end c = rw c.in_ok-add_binary-in-Some-Binary.ensures (end_of_binary c.args.number c.args.parts.now.body c.args.bytes.now c.in_ok-value-in-Some-Binary.value c.in_ok-value-in-Some-Binary.rest.now c.requires.end c.in_ok-value-in-Some-Binary.ensures)
