use Rattle.std.proofs.Common.{rules, ◌≡◌, ℕ, List, Some, None, ap, sym, ◌∙◌}
use Rattle.crowded_map.specs.Values.{spare}
use Rattle.advice_slots.specs.Items.{SlotsView}
use Rattle.advice_slots.specs.Kept.{HeldView, items_of, room_in}
use Rattle.advice_slots.specs.declared.item.Held.{Held}
use Rattle.advice_slots.proofs.Items.{placed_marked}
use Rattle.advice_slots.proofs.Changed.{marked_held, marked_items, room_same, unmarked_items}
use Rattle.advice_slots.proofs.slots.AdviceSlots.mark.Goals as goal

pub invariant_of-self-in-Some : goal.invariant_of-self-in-Some
invariant_of-self-in-Some c =
    let i = c.self.inside in
    let m = c.mark.ensures in
    let order : c.mark.new.self.order ≡ i.held.order = ap (λ (v : HeldView). v.order) m.rest in
    let some : c.find.result ≡ Some c.in-Some.slot = search rules in
    let single = c.self.invariant.single c.if-self.false in
    let items = marked_items i.held c.mark.new.self i.places.slots.entries c.args.id c.in-Some.slot single (sym c.find.ensures ∙ some) m.slots order in
    marked_held i.held c.mark.new.self i.places.slots.entries i.places.slots.entries i.several i.count c.args.id c.self.invariant m.rest items (λ e. placed_marked i.held c.mark.new.self i.places.slots.entries c.args.id c.in-Some.slot m.slots order single)

pub returns-in-Some : goal.returns-in-Some
returns-in-Some c =
    let i = c.self.inside in
    let m = c.mark.ensures in
    let order : c.mark.new.self.order ≡ i.held.order = ap (λ (v : HeldView). v.order) m.rest in
    let some : c.find.result ≡ Some c.in-Some.slot = search rules in
    let items = marked_items i.held c.mark.new.self i.places.slots.entries c.args.id c.in-Some.slot (c.self.invariant.single c.if-self.false) (sym c.find.ensures ∙ some) m.slots order in
    let room = room_same i.held.slots c.mark.new.self.slots (spare i.places.slots) m.len m.capacity in
    let F : HeldView → List Held → ℕ → SlotsView = λ v xs n. record { items = xs; ticks = v.ticks; count = i.count; visits = v.visits; room = n } in
    rw (← c.self.view_is) (ap (λ (v : HeldView). F v (items_of c.mark.new.self) (room_in (spare i.places.slots) c.mark.new.self.slots)) m.rest ∙ (ap (λ xs. F i.held xs (room_in (spare i.places.slots) c.mark.new.self.slots)) items ∙ ap (F i.held _) room))

pub returns-in_default : goal.returns-in_default
returns-in_default c =
    let i = c.self.inside in
    let none : c.find.result ≡ None = search rules in
    let items = unmarked_items i.held i.places.slots.entries c.args.id (c.self.invariant.single c.if-self.false) (sym c.find.ensures ∙ none) in
    let F : List Held → SlotsView = λ xs. record { items = xs; ticks = i.held.ticks; count = i.count; visits = i.held.visits; room = room_in (spare i.places.slots) i.held.slots } in
    rw (← c.self.view_is) (ap F items)

pub invariant_of-self : goal.invariant_of-self
invariant_of-self c =
    let i = c.self.inside in
    let m = c.mark_all.ensures in
    let several = c.if-self.true in
    marked_held i.held c.mark_all.new.self i.places.slots.entries i.places.slots.entries i.several i.count c.args.id c.self.invariant m.rest m.items (λ e. absurd (cc))
