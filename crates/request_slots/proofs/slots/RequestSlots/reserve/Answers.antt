use Rattle.std.proofs.Common.{rules}
use Rattle.request_slots.proofs.Waiting.{kept_roomier}
use Rattle.request_slots.proofs.slots.RequestSlots.reserve.Goals as goal

pub invariant_of-self-in_err-room : goal.invariant_of-self-in_err-room
invariant_of-self-in_err-room c =
    let i = c.self.inside in
    let k = kept_roomier i.wheel c.room.new.self.slots i.slots.items i.count c.room.ensures.values c.self.invariant.0 in
    (rw c.room.ensures.lists k, search rules)

pub invariant_of-self-in_err-reserve : goal.invariant_of-self-in_err-reserve
invariant_of-self-in_err-reserve c =
    let i = c.self.inside in
    let k = kept_roomier i.wheel c.room.new.self.slots i.slots.items i.count c.room.ensures.values c.self.invariant.0 in
    (rw (c.reserve.ensures.items, c.room.ensures.lists) k, search rules)

pub invariant_of-self-2 : goal.invariant_of-self-2
invariant_of-self-2 c =
    let i = c.self.inside in
    let k = kept_roomier i.wheel c.room.new.self.slots i.slots.items i.count c.room.ensures.values c.self.invariant.0 in
    (rw (c.reserve.ensures.items, c.room.ensures.lists) k, search rules)
