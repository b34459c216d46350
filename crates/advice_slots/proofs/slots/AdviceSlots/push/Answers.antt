use Rattle.std.proofs.Common.{List, arith, ap, ◌∙◌}
use Rattle.crowded_map.specs.Values.{spare}
use Rattle.advice_slots.specs.Items.{SlotsView}
use Rattle.advice_slots.specs.Kept.{HeldView, items_of, room_in}
use Rattle.advice_slots.specs.declared.item.Held.{Held}
use Rattle.advice_slots.proofs.Changed.{pushed_held, pushed_items}
use Rattle.advice_slots.proofs.slots.AdviceSlots.push.Goals as goal

pub invariant_of-self : goal.invariant_of-self
invariant_of-self c =
    let i = c.self.inside in
    let p = c.push-slot.ensures in
    pushed_held i.held c.push-slot.new.self i.places.slots.entries c.put-again.new.self.slots.entries i.several c.put-again.result i.count c.push-slot.result c.args.held c.self.invariant p.free p.slots p.rest
    (rw c.name-name.ensures at c.put-again.ensures.again)
    (rw c.name-name.ensures at c.put-again.ensures.slots)
    (rw (← c.self.view_is) at c.requires.past)

pub returns-clause-items : goal.returns-clause-items
returns-clause-items c =
    let i = c.self.inside in
    let p = c.push-slot.ensures in
    let n = c.push-slot.new.self in
    let items = pushed_items i.held n c.push-slot.result c.args.held p.free p.slots (ap (λ (v : HeldView). v.order) p.rest) in
    let F : HeldView → List Held → SlotsView = λ v xs. record { items = xs; ticks = v.ticks; count = i.count; visits = v.visits; room = room_in (spare c.put-again.new.self.slots) n.slots } in
    rw (← c.self.view_is) (ap (λ (v : HeldView). F v (items_of n)) p.rest ∙ ap (F i.held) items)

pub returns-clause-room : goal.returns-clause-room
returns-clause-room c =
    let p = c.push-slot.ensures in
    let len = p.len in
    let capacity = p.capacity in
    let more = c.put-again.ensures.room in
    rw (← c.self.view_is) (omega (arith, len, capacity, more))
