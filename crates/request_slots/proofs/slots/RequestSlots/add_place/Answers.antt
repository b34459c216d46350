use Rattle.std.proofs.Common.{rules}
use Rattle.request_slots.proofs.Waiting.{kept_place}
use Rattle.request_slots.proofs.slots.RequestSlots.add_place.Goals as goal

pub invariant_of-self : goal.invariant_of-self
invariant_of-self c =
    let i = c.self.inside in
    rw c.push_reserved.ensures.items (kept_place i.wheel i.slots.items i.count c.self.invariant.0, search rules)
