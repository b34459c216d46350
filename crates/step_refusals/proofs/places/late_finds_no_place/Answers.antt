use Rattle.std.proofs.Common.{◌≡◌, true, false, sym, ◌∙◌}
use Rattle.message_keys.proofs.KeyLemmas.{when_none}
use Rattle.step_refusals.proofs.Present.{answer_known}
use Rattle.step_refusals.proofs.Roomy.{room_late}
use Rattle.step_refusals.proofs.places.late_finds_no_place.Goals as goal

pub returns-in-None : goal.returns-in-None
returns-in-None c =
    let unknown = when_none _ _ (sym c.in-None.ensures) in
    let known = answer_known c.args.message.now (rw (← c.kind.ensures.kind) (sym c.if-not-is_answer.ensures)) c.requires in
    absurd (let wrong : true ≡ false = sym known ∙ unknown in cc)

pub returns-then-has_place : goal.returns-then-has_place
returns-then-has_place c =
    let t = c.args.tables.now in
    let n = c.args.node in
    room_late t n c.args.books.now.lists c.args.link c.args.message.now (c.has_place.ensures c.if-has_place.true t n)
