use Rattle.std.proofs.Common.{◌≡◌, ◌+◌, ◌-◌, ◌*◌, ◌%◌, ◌^◌, ◌≤◌, ◌++◌, false, length, length-drop, sym, ap, ◌∙◌, arith}
use Rattle.std.specs.Prelude.{slice_range}
use Rattle.std.proofs.lemmas.Nat.{one_shl}
use Rattle.message_elements.specs.Table.{form_of}
use Rattle.iso_message.specs.Made.{is_one_of, response_numbers}
use Rattle.iso_message.specs.Messages.{marks}
use Rattle.iso_message.specs.Spelling.{piece, pieces}
use Rattle.response_bytes.proofs.Steps.{next_of, piece_there, some_same, no_some, rest_of, slice_length, longer_more, first_mark, carried_step, dropped_step}
use Rattle.response_bytes.proofs.response.push_kept.Goals as goal
use Rattle.response_bytes.proofs.response.push_kept.Goals.{then-not-is_in_response+in_ok-extend_from_slice, else-not-is_in_response}

pub returns-in_default-clause-taken : goal.returns-in_default-clause-taken
returns-in_default-clause-taken c = λ es good numbers bytes.
    let up_to = c.args.up_to in
    let left = c.loop-left.left in
    let body = c.args.body.now in
    let from = c.loop-left.from in
    let at = c.loop-left.at in
    let old = c.args.out.now.items in
    let new = c.loop-left.out.items in
    let n = c.take_mark-number.result in
    let ns = marks 64 64 c.take_mark-number.new.map in
    let way = c.loop-left.invariant.on_way es good numbers bytes in
    let next = next_of up_to es left body from at old new n ns way c.take_mark-number.ensures in
    let there = rest_of at body ∙ piece_there up_to es left body from at old new n ns way next in
    no_some (length (piece (form_of n) next.e.1)) (c.in_default.ensures.piece next.e.1 (pieces next.more) next.value there)

pub loop-left-preserved : goal.loop-left-preserved
loop-left-preserved c =
    let before = c.loop-left.invariant in
    let up_to = c.args.up_to in
    let left = c.loop-left.left in
    let body = c.args.body.now in
    let from = c.loop-left.from in
    let at = c.loop-left.at in
    let len = c.in-Some.len in
    let old = c.args.out.now.items in
    let new = c.loop-left.out.items in
    let n = c.take_mark-number.result in
    let after = c.take_mark-number.new.map in
    let shifted : (1 * 2 ^ (64 - up_to)) % 2 ^ 64 ≡ 2 ^ (64 - up_to) = one_shl (64 - up_to) 64 (omega (arith, c.requires.least)) in
    let high : 2 ^ (64 - up_to) ≤ left = omega (arith, shifted, c.loop-left-test.true) in
    let mark : n ≤ 64 - (64 - up_to) = first_mark (64 - up_to) n left (marks 64 64 after) (omega (arith, c.requires.least)) high c.take_mark-number.ensures in
    let low : n ≤ up_to = omega (arith, mark, c.requires.most) in
    let inside : at + len ≤ length body = omega (arith, c.in-Some.ensures.within, ap length (rest_of at body), length-drop at body, before.inside) in
    elim c.if-not-is_in_response.branch [
      | then-not-is_in_response+in_ok-extend_from_slice w ↦
          let more = w.extend_from_slice.new.self in
          let added : more.items ≡ new ++ slice_range body from at = w.in_ok-extend_from_slice.ensures.items in
          let dropped : is_one_of response_numbers n ≡ false = sym c.is_in_response.ensures ∙ w.if-not-is_in_response.true in
          rw (w.out-is, w.from-is) (record {
            order = omega arith;
            inside = inside;
            longer = longer_more old new more.items (slice_range body from at) before.longer added;
            capacity = omega (arith, before.capacity, w.in_ok-extend_from_slice.ensures.capacity);
            room = omega (arith, before.room, w.in_ok-extend_from_slice.ensures.len, slice_length body from at before.order before.inside, before.order);
            on_way = λ es good numbers bytes.
                let way = before.on_way es good numbers bytes in
                let next = next_of up_to es left body from at old new n (marks 64 64 after) way c.take_mark-number.ensures in
                let there = rest_of at body ∙ piece_there up_to es left body from at old new n (marks 64 64 after) way next in
                let is : len ≡ length (piece (form_of n) next.e.1) = some_same len (length (piece (form_of n) next.e.1)) (c.in-Some.ensures.piece next.e.1 (pieces next.more) next.value there) in
                dropped_step up_to es left body from at old new way n after len next low is more.items added dropped;
          })
      | else-not-is_in_response w ↦
          rw (w.out-is, w.from-is) (record {
            order = omega (arith, before.order);
            inside = inside;
            longer = before.longer;
            capacity = before.capacity;
            room = before.room;
            on_way = λ es good numbers bytes.
                let way = before.on_way es good numbers bytes in
                let next = next_of up_to es left body from at old new n (marks 64 64 after) way c.take_mark-number.ensures in
                let there = rest_of at body ∙ piece_there up_to es left body from at old new n (marks 64 64 after) way next in
                let is : len ≡ length (piece (form_of n) next.e.1) = some_same len (length (piece (form_of n) next.e.1)) (c.in-Some.ensures.piece next.e.1 (pieces next.more) next.value there) in
                carried_step up_to es left body from at old new way n after len next low is before.order (sym c.is_in_response.ensures ∙ w.if-not-is_in_response.false);
          })
    ]
