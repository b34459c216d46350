use Rattle.std.proofs.Common.{rules}
use Rattle.request_slots.proofs.Waiting.{kept_none}
use Rattle.request_slots.proofs.slots.RequestSlots.new.Goals as goal

pub invariant_of-result : goal.invariant_of-result
invariant_of-result c =
    let w = c.in_ok-wheel.wheel in
    rw (c.in_ok-grow_heads-2.ensures.ok, c.in_ok-grow_heads.ensures.ok, c.new-2.ensures.items) (kept_none w c.in_ok-wheel.ensures.slots.0 c.in_ok-wheel.ensures.waiting c.in_ok-wheel.ensures.lists.0 c.in_ok-wheel.ensures.lists.1, search rules)
