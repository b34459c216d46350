use Rattle.std.proofs.Common.{◌≡◌, ◌++◌, true, false, ap, sym, ◌∙◌, arith}
use Rattle.iso_message.specs.Made.{response}
use Rattle.iso_message.specs.Spelling.{spelling}
use Rattle.response_bytes.proofs.Whole.{no_kind, no_map, high_head, low_head, head_length}
use Rattle.response_bytes.proofs.response.push_response.Goals as goal

pub returns-in_default-clause-left : goal.returns-in_default-clause-left
returns-in_default-clause-left c = λ m h e none same. no_kind c.args.bytes.now m c.in_default.field-0 e c.in_default.ensures

pub returns-in_default-bit_map-clause-left : goal.returns-in_default-bit_map-clause-left
returns-in_default-bit_map-clause-left c = λ m h e none same. no_map c.args.bytes.now c.in-Ok.rest.now m c.in-Ok.kind c.in_default-bit_map.field-0 h e c.in-Ok.ensures c.in_default-bit_map.ensures

pub returns-then-first-clause-left : goal.returns-then-first-clause-left
returns-then-first-clause-left c = λ m h e none same. high_head c.args.bytes.now c.in-Ok.rest.now c.in-Ok-bit_map.body.now m c.in-Ok.kind c.in-Ok-bit_map.first h e c.in-Ok.ensures c.in-Ok-bit_map.ensures c.if-first.true none

pub returns-in-Ok-true-clause-made : goal.returns-in-Ok-true-clause-made
returns-in-Ok-true-clause-made c = λ m h e same.
    let low = low_head c.args.bytes.now c.in-Ok.rest.now c.in-Ok-bit_map.body.now m c.in-Ok.kind c.in-Ok-bit_map.first h e c.in-Ok.ensures c.in-Ok-bit_map.ensures c.if-first.false in
    (c.in-Ok-true.ensures.made m h low.0 low.1 low.2 low.3).1 ∙ ap (λ xs. xs ++ spelling (response m c.args.code)) c.in_ok-reserve.ensures.items

pub returns-in-Ok-false-clause-left : goal.returns-in-Ok-false-clause-left
returns-in-Ok-false-clause-left c = λ m h e none same.
    let low = low_head c.args.bytes.now c.in-Ok.rest.now c.in-Ok-bit_map.body.now m c.in-Ok.kind c.in-Ok-bit_map.first h e c.in-Ok.ensures c.in-Ok-bit_map.ensures c.if-first.false in
    let all : true ≡ false = sym (c.in-Ok-false.ensures.made m h low.0 low.1 low.2 low.3).0 ∙ c.in-Ok-false.field-0-test in
    absurd cc

pub returns-in-Err-clause-full : goal.returns-in-Err-clause-full
returns-in-Err-clause-full c =
    let long = head_length c.args.bytes.now c.in-Ok.rest.now c.in-Ok-bit_map.body.now c.in-Ok.kind c.in-Ok-bit_map.first c.in-Ok.ensures c.in-Ok-bit_map.ensures in
    absurd (omega (arith, long, c.in-Err.ensures.full, c.in_ok-reserve.ensures.ok))
