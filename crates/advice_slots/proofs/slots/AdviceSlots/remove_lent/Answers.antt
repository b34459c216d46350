use Rattle.std.proofs.Common.{arith, List, not, ap, ◌∙◌}
use Rattle.crowded_map.specs.Values.{spare}
use Rattle.advice_slots.specs.Items.{SlotsView, is_lent}
use Rattle.advice_slots.specs.Kept.{HeldView, items_of, room_in}
use Rattle.advice_slots.specs.declared.item.Held.{Held}
use Rattle.advice_slots.proofs.Changed.{fewer_held, room_kept}
use Rattle.advice_slots.proofs.slots.AdviceSlots.remove_lent.Goals as goal

pub invariant_of-self : goal.invariant_of-self
invariant_of-self c =
    let i = c.self.inside in
    let l = c.leave_all.ensures in
    fewer_held i.held c.leave_all.new.self i.places.slots.entries i.places.slots.entries i.several _ i.count (λ a. not (is_lent c.args.lender c.args.number a)) c.self.invariant l.rest l.items (λ e. absurd (cc))

pub returns-clause-items : goal.returns-clause-items
returns-clause-items c =
    let i = c.self.inside in
    let l = c.leave_all.ensures in
    let F : HeldView → List Held → SlotsView = λ v xs. record { items = xs; ticks = v.ticks; count = i.count; visits = v.visits; room = room_in (spare i.places.slots) c.leave_all.new.self.slots } in
    rw (← c.self.view_is) (ap (λ (v : HeldView). F v (items_of c.leave_all.new.self)) l.rest ∙ ap (F i.held) l.items)

pub returns-clause-room : goal.returns-clause-room
returns-clause-room c =
    let i = c.self.inside in
    rw (← c.self.view_is) (room_kept i.held.slots c.leave_all.new.self.slots (spare i.places.slots) (spare i.places.slots) c.leave_all.ensures.room (omega arith))
