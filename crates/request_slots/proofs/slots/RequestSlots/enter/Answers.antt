use Rattle.std.proofs.Common.{◌≡◌, ℕ, ◌+◌, ◌-◌, ◌<◌, ◌≤◌, List, Option, Some, None, arith, ap, sym, ◌∙◌, length, subst}
use Rattle.std.specs.Prelude.{slice_set, IfSome}
use Rattle.std.specs.Option.{option_map}
use Rattle.slab.specs.Slab.{Slab, HasRoomFor, Updates, slab_len}
use Rattle.chain_links.specs.Lists.{LinksView}
use Rattle.tick_wheel.specs.Wheel.{WheelView}
use Rattle.request_slots.specs.declared.wait.Wait.{Wait}
use Rattle.request_slots.specs.Kept.{armed_by, ending, linked, slot_at, IsKept}
use Rattle.request_slots.specs.Waits.{SlotsView, wait_at, held_waits, with_wait}
use Rattle.request_slots.proofs.Waiting.{armed_card, armed_link, armed_slots, armed_visits, armed_waiting, kept_enter, linked_length, no_slot_at, none_armed, none_carded, none_linked, waits_enter, waits_length}
use Rattle.request_slots.proofs.slots.RequestSlots.enter.Goals as goal

pub enter_tick-requires-clause-unarmed : goal.enter_tick-requires-clause-unarmed
enter_tick-requires-clause-unarmed c =
    let i = c.self.inside in
    rw c.insert-slot.ensures.lists (none_armed i.wheel i.slots.items i.count c.insert-slot.result c.self.invariant.0 c.insert-slot.ensures.was_free)

pub enter_link-requires-clause-loose : goal.enter_link-requires-clause-loose
enter_link-requires-clause-loose c =
    let i = c.self.inside in
    let same : c.enter_tick.new.wheel.link ≡ i.wheel.link = ap (λ (w : WheelView Wait). w.link) c.enter_tick.ensures ∙ (armed_link c.insert-slot.new.self c.insert-slot.result i.count c.args.wait.due ∙ ap (λ (w : WheelView Wait). w.link) c.insert-slot.ensures.lists) in
    rw same (none_linked i.wheel i.slots.items i.count c.insert-slot.result c.self.invariant.0 c.insert-slot.ensures.was_free)

pub enter_card-requires-clause-loose : goal.enter_card-requires-clause-loose
enter_card-requires-clause-loose c =
    let i = c.self.inside in
    let same : c.enter_link.new.wheel.card ≡ i.wheel.card =
    ap (λ (w : WheelView Wait). w.card) c.enter_link.ensures ∙ (ap (λ (w : WheelView Wait). w.card) c.enter_tick.ensures ∙ (armed_card c.insert-slot.new.self c.insert-slot.result i.count c.args.wait.due ∙ ap (λ (w : WheelView Wait). w.card) c.insert-slot.ensures.lists)) in
    rw same (none_carded i.wheel i.slots.items i.count c.insert-slot.result c.self.invariant.0 c.insert-slot.ensures.was_free)

pub enter_card-requires-clause-heads : goal.enter_card-requires-clause-heads
enter_card-requires-clause-heads c =
    let i = c.self.inside in
    let same : c.enter_link.new.wheel.card ≡ i.wheel.card =
    ap (λ (w : WheelView Wait). w.card) c.enter_link.ensures ∙ (ap (λ (w : WheelView Wait). w.card) c.enter_tick.ensures ∙ (armed_card c.insert-slot.new.self c.insert-slot.result i.count c.args.wait.due ∙ ap (λ (w : WheelView Wait). w.card) c.insert-slot.ensures.lists)) in
    ap (λ (l : LinksView). length l.lists) same ∙ c.self.invariant.1.all_endings

pub invariant_of-self : goal.invariant_of-self
invariant_of-self c =
    let i = c.self.inside in
    let k = c.self.invariant.0 in
    let h = c.self.invariant.1 in
    let w = c.args.wait in
    let slot = c.insert-slot.result in
    let one = c.insert-slot.new.self in
    let new = c.enter_card.new.wheel in
    let e1 = c.insert-slot.ensures.lists in
    let e2 = c.enter_tick.ensures in
    let e3 = c.enter_link.ensures in
    let e4 = c.enter_card.ensures.wheel in
    let slots_is : new.slots ≡ one.slots = ap (λ (v : WheelView Wait). v.slots) e4 ∙ (ap (λ (v : WheelView Wait). v.slots) e3 ∙ (ap (λ (v : WheelView Wait). v.slots) e2 ∙ armed_slots one slot i.count w.due)) in
    let waiting : new.waiting ≡ (armed_by i.wheel slot i.count w.due).waiting = ap (λ (v : WheelView Wait). v.waiting) e4 ∙ (ap (λ (v : WheelView Wait). v.waiting) e3 ∙ (ap (λ (v : WheelView Wait). v.waiting) e2 ∙ armed_waiting i.wheel one slot i.count w.due (ap (λ (v : WheelView Wait). v.waiting) e1))) in
    let link : new.link ≡ linked i.wheel.link w.link slot = ap (λ (v : WheelView Wait). v.link) e4 ∙ (ap (λ (v : WheelView Wait). v.link) e3 ∙ ap (λ (l : LinksView). linked l w.link slot) (ap (λ (v : WheelView Wait). v.link) e2 ∙ (armed_link one slot i.count w.due ∙ ap (λ (v : WheelView Wait). v.link) e1))) in
    let card : c.enter_link.new.wheel.card ≡ i.wheel.card = ap (λ (v : WheelView Wait). v.card) e3 ∙ (ap (λ (v : WheelView Wait). v.card) e2 ∙ (armed_card one slot i.count w.due ∙ ap (λ (v : WheelView Wait). v.card) e1)) in
    let cards : new.card ≡ linked i.wheel.card (option_map ending w.card) slot = ap (λ (v : WheelView Wait). v.card) e4 ∙ ap (λ (l : LinksView). linked l (option_map ending w.card) slot) card in
    let up : Updates i.wheel.slots new.slots slot (Some w) = subst (λ (s : Slab Wait). Updates i.wheel.slots s slot (Some w)) (sym slots_is) c.insert-slot.ensures.slots in
    let seen : w.place < length (held_waits i.wheel.slots i.slots.items) = subst (λ (v : SlotsView). w.place < length v.waits) (sym c.self.view_is) c.requires.place in
    let within : w.place < length i.slots.items = subst (λ (n : ℕ). w.place < n) (waits_length i.wheel.slots i.slots.items) seen in
    let empty : slot_at i.slots.items w.place ≡ None = no_slot_at i.wheel.slots i.slots.items w.place k.slots_held (subst (λ (v : SlotsView). wait_at v.waits w.place ≡ None) (sym c.self.view_is) c.requires.none) in
    let kept : IsKept new (slice_set i.slots.items w.place (Some slot)) i.count =
    kept_enter i.wheel new i.slots.items i.count slot w k c.insert-slot.ensures.was_free up within empty
    (subst (λ (v : SlotsView). IfSome w.due (λ due. (v.count < due) × (due ≤ v.count + 4000))) (sym c.self.view_is) c.requires.due) (subst (λ (n : ℕ). IfSome w.link (λ l. l < n)) (sym h.all_links) c.requires.link)
    (subst (λ (n : ℕ). IfSome w.card (λ o. ending o < n)) (sym h.all_endings) c.enter_card.ensures.head) waiting link cards in
    let few : slab_len i.wheel.slots + i.room ≤ i.wheel.slots.capacity = h.in_wheel in
    let room : HasRoomFor new.slots (i.room - 1) = subst (λ (s : Slab Wait). HasRoomFor s (i.room - 1)) (sym slots_is) (omega (arith, few, c.insert-slot.ensures.len, c.insert-slot.ensures.capacity, subst (λ (v : SlotsView). 0 < v.room) (sym c.self.view_is) c.requires.room)) in (
      kept,
      record {
        in_wheel = room;
        in_slots = (let n = h.in_slots in omega (arith, n));
        all_links = ap (λ (l : LinksView). length l.lists) link ∙ (linked_length i.wheel.link w.link slot ∙ h.all_links);
        all_endings = ap (λ (l : LinksView). length l.lists) cards ∙ (linked_length i.wheel.card (option_map ending w.card) slot ∙ h.all_endings);
      },
    )

pub returns : goal.returns
returns c =
    let i = c.self.inside in
    let k = c.self.invariant.0 in
    let w = c.args.wait in
    let slot = c.insert-slot.result in
    let one = c.insert-slot.new.self in
    let new = c.enter_card.new.wheel in
    let e1 = c.insert-slot.ensures.lists in
    let e2 = c.enter_tick.ensures in
    let e3 = c.enter_link.ensures in
    let e4 = c.enter_card.ensures.wheel in
    let slots_is : new.slots ≡ one.slots = ap (λ (v : WheelView Wait). v.slots) e4 ∙ (ap (λ (v : WheelView Wait). v.slots) e3 ∙ (ap (λ (v : WheelView Wait). v.slots) e2 ∙ armed_slots one slot i.count w.due)) in
    let up : Updates i.wheel.slots new.slots slot (Some w) = subst (λ (s : Slab Wait). Updates i.wheel.slots s slot (Some w)) (sym slots_is) c.insert-slot.ensures.slots in
    let seen : w.place < length (held_waits i.wheel.slots i.slots.items) = subst (λ (v : SlotsView). w.place < length v.waits) (sym c.self.view_is) c.requires.place in
    let within : w.place < length i.slots.items = subst (λ (n : ℕ). w.place < n) (waits_length i.wheel.slots i.slots.items) seen in
    let all : held_waits new.slots (slice_set i.slots.items w.place (Some slot)) ≡ with_wait (held_waits i.wheel.slots i.slots.items) w.place (Some w) = waits_enter i.wheel.slots new.slots i.slots.items slot w k.slots_held c.insert-slot.ensures.was_free up within in
    let visits : new.visits ≡ i.wheel.visits =
    ap (λ (v : WheelView Wait). v.visits) e4 ∙ (ap (λ (v : WheelView Wait). v.visits) e3 ∙ (ap (λ (v : WheelView Wait). v.visits) e2 ∙ (armed_visits one slot i.count w.due ∙ ap (λ (v : WheelView Wait). v.visits) e1))) in
    let B : List (Option Wait) → ℕ → SlotsView = λ ws n. record { waits = ws; count = i.count; visits = n; room = i.room - 1 } in
    let done : B (held_waits new.slots (slice_set i.slots.items w.place (Some slot))) new.visits ≡ B (with_wait (held_waits i.wheel.slots i.slots.items) w.place (Some w)) i.wheel.visits =
    ap (λ ws. B ws new.visits) all ∙ ap (λ n. B (with_wait (held_waits i.wheel.slots i.slots.items) w.place (Some w)) n) visits in
    rw (← c.self.view_is) done
