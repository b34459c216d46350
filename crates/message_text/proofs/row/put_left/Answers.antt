use Rattle.std.proofs.Common.{ℕ, List, [], ◌∷◌, ◌++◌, eqb, length, take, refl, sym, ap, subst, ◌∙◌, append-nil, arith}
use Rattle.std.proofs.lemmas.List.{flat_map_more}
use Rattle.std.proofs.lemmas.Result.{err_from_is_err_and}
use Rattle.iso_message.specs.Spelling.{Ascends}
use Rattle.iso_message.proofs.Canonical.{weaker}
use Rattle.iso_message.proofs.ReadOn.{on_element, on_fault, at_end, left_over}
use Rattle.message_text.specs.Printed.{element_line}
use Rattle.message_text.specs.Lines.{WritesElement}
use Rattle.message_text.specs.Room.{lines_room}
use Rattle.message_text.proofs.row.put_left.Goals as goal

pub loop-number-init : goal.loop-number-init
loop-number-init c = record { so_far = []; same = λ kind. refl; text = sym (append-nil (take c.args.at c.args.row.now)); order = c.requires.order; fits = c.requires.room; size = refl }

pub put_next-requires-clause-number : goal.put_next-requires-clause-number
put_next-requires-clause-number c =
    let order = subst (λ (ns : List ℕ). Ascends 1 128 ns) c.in-Some.ensures.numbers c.loop-number.invariant.order in
    order.1

pub put_next-requires-clause-room : goal.put_next-requires-clause-room
put_next-requires-clause-room c = omega (arith, c.loop-number.invariant.fits, ap lines_room c.in-Some.ensures.numbers)

pub returns-in_err-end-clause-fault : goal.returns-in_err-end-clause-fault
returns-in_err-end-clause-fault c =
    let p = err_from_is_err_and c.from_residual.result c.from_residual.ensures.1 in
    let before = c.loop-number.invariant in
    rw (p.1, p.2) (λ kind. before.same kind ∙ on_fault kind before.so_far c.in-Some.number c.in_err-end.field-0.0 c.loop-number.left c.next_number.new.self c.in-Some.ensures.numbers c.in-Some.ensures.bytes c.in_err-end.ensures.fault)

pub loop-number-preserved : goal.loop-number-preserved
loop-number-preserved c =
    let n = c.in-Some.number in
    let before = c.loop-number.invariant in
    let line : WritesElement n c.next_number.new.self.bytes c.put_next.new.unread.bytes (take c.loop-number.end c.loop-number.row) (take c.in_ok-end.end c.put_next.new.row) = c.in_ok-end.ensures.line in
    let value = WritesElement.value line in
    let order = subst (λ (ns : List ℕ). Ascends 1 128 ns) c.in-Some.ensures.numbers before.order in
    let behind : Ascends 1 128 c.next_number.new.self.numbers = weaker n 1 128 c.next_number.new.self.numbers (omega (arith, order.0)) order.2 in
    record {
      so_far = before.so_far ++ (n, value) ∷ [];
      same = λ kind. before.same kind ∙ on_element kind before.so_far n value c.loop-number.left c.next_number.new.self c.put_next.new.unread c.in-Some.ensures.numbers c.in-Some.ensures.bytes c.in_ok-end.ensures.numbers (WritesElement.found line);
      text = WritesElement.text line ∙ ap (λ z. z ++ element_line (n, value)) before.text ∙ flat_map_more element_line (take c.args.at c.args.row.now) before.so_far (n, value);
      order = subst (λ (ns : List ℕ). Ascends 1 128 ns) (sym c.in_ok-end.ensures.numbers) behind;
      fits = omega (arith, before.fits, ap lines_room c.in-Some.ensures.numbers, ap lines_room c.in_ok-end.ensures.numbers, c.in_ok-end.ensures.end, c.in_ok-end.ensures.size);
      size = c.in_ok-end.ensures.size ∙ before.size;
    }

pub returns-then-not-is_at_end-clause-fault : goal.returns-then-not-is_at_end-clause-fault
returns-then-not-is_at_end-clause-fault c =
    let before = c.loop-number.invariant in
    λ kind. before.same kind ∙ left_over kind before.so_far c.loop-number.left c.in_default.ensures.numbers (ap (λ bs. eqb (length bs) 0) (sym c.in_default.ensures.bytes) ∙ sym c.is_at_end.ensures ∙ c.if-not-is_at_end.true)

pub returns-clause-lines : goal.returns-clause-lines
returns-clause-lines c =
    let before = c.loop-number.invariant in
    record {
      elements = before.so_far;
      found = λ kind. before.same kind ∙ at_end kind before.so_far c.loop-number.left c.in_default.ensures.numbers (ap (λ bs. eqb (length bs) 0) (sym c.in_default.ensures.bytes) ∙ sym c.is_at_end.ensures ∙ c.if-not-is_at_end.false);
      text = before.text;
    }

pub returns-clause-end : goal.returns-clause-end
returns-clause-end c = omega (arith, c.loop-number.invariant.fits, c.loop-number.invariant.size)
