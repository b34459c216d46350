use Rattle.std.proofs.Common.{rules, ◌≡◌, List, Some, None, not, ap, sym, ◌∙◌}
use Rattle.chain_links.specs.Lists.{without}
use Rattle.crowded_map.specs.Values.{spare}
use Rattle.advice_slots.specs.Items.{SlotsView, is_named}
use Rattle.advice_slots.specs.Kept.{HeldView, items_of, room_in}
use Rattle.advice_slots.specs.declared.item.Held.{Held}
use Rattle.advice_slots.specs.declared.wanted.Wanted.TheVariants as wanted
use Rattle.advice_slots.proofs.Items.{any_item, placed_less, placed_none}
use Rattle.advice_slots.proofs.Changed.{fewer_held, found_if, is_any, left_items, room_kept, stay_items, stay_none, there_any}
use Rattle.advice_slots.proofs.slots.AdviceSlots.remove.Goals as goal

pub invariant_of-self : goal.invariant_of-self
invariant_of-self c =
    let i = c.self.inside in
    let l = c.leave_all.ensures in
    let several = c.if-self.true in
    fewer_held i.held c.leave_all.new.self i.places.slots.entries c.remove-slot.new.self.slots.entries i.several i.several i.count (λ a. not (is_named c.args.name.now a)) c.self.invariant l.rest l.items (λ e. absurd (cc))

pub returns-then-self-clause-held : goal.returns-then-self-clause-held
returns-then-self-clause-held c =
    let i = c.self.inside in
    rw (← c.self.view_is) (c.is_some-found.ensures ∙ (is_any c.find.result _ (found_if (wanted.Item c.args.name.now) i.held c.find.result c.find.ensures.found) c.find.ensures.none ∙ any_item c.args.name.now (items_of i.held)))

pub returns-then-self-clause-items : goal.returns-then-self-clause-items
returns-then-self-clause-items c =
    let i = c.self.inside in
    let l = c.leave_all.ensures in
    let F : HeldView → List Held → SlotsView = λ v xs. record { items = xs; ticks = v.ticks; count = i.count; visits = v.visits; room = room_in (spare c.remove-slot.new.self.slots) c.leave_all.new.self.slots } in
    rw (← c.self.view_is) (ap (λ (v : HeldView). F v (items_of c.leave_all.new.self)) l.rest ∙ ap (F i.held) l.items)

pub returns-then-self-clause-room : goal.returns-then-self-clause-room
returns-then-self-clause-room c =
    let i = c.self.inside in
    rw (← c.self.view_is) (room_kept i.held.slots c.leave_all.new.self.slots (spare i.places.slots) (spare c.remove-slot.new.self.slots) c.leave_all.ensures.room c.remove-slot.ensures.room)

pub leave-requires : goal.leave-requires
leave-requires c =
    let some : c.remove-slot.result ≡ Some c.in-Some.slot = search rules in
    ((c.self.invariant.single c.if-self.false).own c.args.name.now c.in-Some.slot (sym c.remove-slot.ensures.slot ∙ some)).among

pub invariant_of-self-in-Some : goal.invariant_of-self-in-Some
invariant_of-self-in-Some c =
    let i = c.self.inside in
    let l = c.leave.ensures in
    let order : c.leave.new.self.order ≡ without c.in-Some.slot i.held.order = ap (λ (v : HeldView). v.order) l.rest in
    let some : c.remove-slot.result ≡ Some c.in-Some.slot = search rules in
    let at = sym c.remove-slot.ensures.slot ∙ some in
    let single = c.self.invariant.single c.if-self.false in
    let items = left_items i.held c.leave.new.self i.places.slots.entries c.remove-slot.new.self.slots.entries c.args.name.now single c.remove-slot.ensures.slots c.in-Some.slot at l.slots order in
    fewer_held i.held c.leave.new.self i.places.slots.entries c.remove-slot.new.self.slots.entries i.several i.several i.count (λ a. not (is_named c.args.name.now a)) c.self.invariant
    (l.rest ∙ ap (λ xs. record i.held { slots = c.leave.new.self.slots; order = xs }) (sym order))
    items
    (λ e. placed_less i.held c.leave.new.self i.places.slots.entries c.remove-slot.new.self.slots.entries c.args.name.now c.in-Some.slot l.slots order c.remove-slot.ensures.slots at single)

pub returns-in-Some-clause-held : goal.returns-in-Some-clause-held
returns-in-Some-clause-held c =
    let i = c.self.inside in
    let some : c.remove-slot.result ≡ Some c.in-Some.slot = search rules in
    rw (← c.self.view_is) (sym (there_any i.held i.places.slots.entries c.args.name.now c.in-Some.slot (c.self.invariant.single c.if-self.false) (sym c.remove-slot.ensures.slot ∙ some)))

pub returns-in-Some-clause-items : goal.returns-in-Some-clause-items
returns-in-Some-clause-items c =
    let i = c.self.inside in
    let l = c.leave.ensures in
    let order : c.leave.new.self.order ≡ without c.in-Some.slot i.held.order = ap (λ (v : HeldView). v.order) l.rest in
    let some : c.remove-slot.result ≡ Some c.in-Some.slot = search rules in
    let items = left_items i.held c.leave.new.self i.places.slots.entries c.remove-slot.new.self.slots.entries c.args.name.now (c.self.invariant.single c.if-self.false) c.remove-slot.ensures.slots c.in-Some.slot (sym c.remove-slot.ensures.slot ∙ some) l.slots order in
    let F : HeldView → List Held → SlotsView = λ v xs. record { items = xs; ticks = v.ticks; count = i.count; visits = v.visits; room = room_in (spare c.remove-slot.new.self.slots) c.leave.new.self.slots } in
    rw (← c.self.view_is) (ap (λ (v : HeldView). F v (items_of c.leave.new.self)) l.rest ∙ ap (F i.held) items)

pub returns-in-Some-clause-room : goal.returns-in-Some-clause-room
returns-in-Some-clause-room c =
    let i = c.self.inside in
    rw (← c.self.view_is) (room_kept i.held.slots c.leave.new.self.slots (spare i.places.slots) (spare c.remove-slot.new.self.slots) c.leave.ensures.room c.remove-slot.ensures.room)

pub invariant_of-self-in-None : goal.invariant_of-self-in-None
invariant_of-self-in-None c =
    let i = c.self.inside in
    let none : c.remove-slot.result ≡ None = search rules in
    let at = sym c.remove-slot.ensures.slot ∙ none in
    let h = c.self.invariant in
    record {
      some = h.some;
      few = h.few;
      single = λ e. placed_none i.held i.places.slots.entries c.remove-slot.new.self.slots.entries c.args.name.now c.remove-slot.ensures.slots at (h.single e);
      early = h.early;
      turn = h.turn;
      past = h.past;
    }

pub returns-in-None-clause-held : goal.returns-in-None-clause-held
returns-in-None-clause-held c =
    let i = c.self.inside in
    let none : c.remove-slot.result ≡ None = search rules in
    rw (← c.self.view_is) (sym (stay_none i.held i.held i.places.slots.entries c.remove-slot.new.self.slots.entries c.args.name.now (c.self.invariant.single c.if-self.false) c.remove-slot.ensures.slots (sym c.remove-slot.ensures.slot ∙ none)))

pub returns-in-None-clause-items : goal.returns-in-None-clause-items
returns-in-None-clause-items c =
    let i = c.self.inside in
    let none : c.remove-slot.result ≡ None = search rules in
    let items = stay_items i.held i.held i.places.slots.entries c.remove-slot.new.self.slots.entries c.args.name.now (c.self.invariant.single c.if-self.false) c.remove-slot.ensures.slots (sym c.remove-slot.ensures.slot ∙ none) in
    let F : List Held → SlotsView = λ xs. record { items = xs; ticks = i.held.ticks; count = i.count; visits = i.held.visits; room = room_in (spare c.remove-slot.new.self.slots) i.held.slots } in
    rw (← c.self.view_is) (ap F items)
