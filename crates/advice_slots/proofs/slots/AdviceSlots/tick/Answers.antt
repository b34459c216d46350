use Rattle.std.proofs.Common.{rules, arith, ◌<◌, ◌+◌, ◌^◌, ℕ, ap, sym, ◌∙◌, length}
use Rattle.crowded_map.specs.Values.{spare}
use Rattle.advice_slots.specs.Items.{SlotsView}
use Rattle.advice_slots.specs.Kept.{HeldView, items_of, room_in}
use Rattle.advice_slots.proofs.Changed.{passed_held}
use Rattle.advice_slots.proofs.Due.{all_due}
use Rattle.advice_slots.proofs.slots.AdviceSlots.tick.Goals as goal

pub invariant_of-self : goal.invariant_of-self
invariant_of-self c =
    let i = c.self.inside in
    let t = c.tick.ensures in
    let lt : i.count < 2 ^ 63 = search rules in
    passed_held i.held i.places.slots.entries i.several i.count c.self.invariant c.tick.new.self 1 (omega (arith, lt)) t.turn t.rest

pub returns-then-self-lt-MOST_TICKS-clause-next : goal.returns-then-self-lt-MOST_TICKS-clause-next
returns-then-self-lt-MOST_TICKS-clause-next c =
    let i = c.self.inside in
    let h = c.self.invariant in
    let t = c.tick.ensures in
    let lt : i.count < 2 ^ 63 = search rules in
    let due = all_due i.held.ticks (i.count + 1) i.held.turn (items_of i.held) (sym h.turn) (h.past lt) in
    let F : HeldView → SlotsView = λ v. record { items = items_of v; ticks = v.ticks; count = i.count + 1; visits = v.visits; room = room_in (spare i.places.slots) v.slots } in
    let G : ℕ → SlotsView = λ n. record { items = items_of i.held; ticks = i.held.ticks; count = i.count + 1; visits = n; room = room_in (spare i.places.slots) i.held.slots } in
    λ less. rw (← c.self.view_is) (ap F t.rest ∙ ap G (t.visits ∙ ap (λ xs. length xs + 1) due))
