use Rattle.std.proofs.Common.{◌+◌, ℕ, ap, refl, ◌∙◌, sym, filter}
use Rattle.std.proofs.lemmas.List.{length-map}
use Rattle.advice_slots.specs.Items.{SlotsView, is_due, name_of}
use Rattle.advice_store.specs.Books.{Store}
use Rattle.advice_store.proofs.Stores.{room_ticked}
use Rattle.advice_store.proofs.store.AdviceStore.tick.Goals as goal

pub invariant_of-self : goal.invariant_of-self
invariant_of-self c =
    let i = c.self.inside in
    rw (room_ticked i.slots c.tick.new.self _ c.tick.ensures.next c.tick.ensures.last refl) c.self.invariant

pub returns-clause-next : goal.returns-clause-next
returns-clause-next c =
    let i = c.self.inside in
    let F : SlotsView → Store = λ v. record { items = v.items; known = i.known.ids; reserved = i.reserved; room = i.room; ticks = v.ticks; count = v.count; visits = v.visits } in
    let G : ℕ → Store = λ n. record { items = i.slots.items; known = i.known.ids; reserved = i.reserved; room = i.room; ticks = i.slots.ticks; count = i.slots.count + 1; visits = n + 1 } in
    rw (← c.self.view_is) (λ less. ap F (c.tick.ensures.next less) ∙ ap G (sym (length-map (filter (is_due i.slots.ticks (i.slots.count + 1)) i.slots.items) name_of)))

pub returns-clause-last : goal.returns-clause-last
returns-clause-last c =
    let i = c.self.inside in
    let F : SlotsView → Store = λ v. record { items = v.items; known = i.known.ids; reserved = i.reserved; room = i.room; ticks = v.ticks; count = v.count; visits = v.visits } in
    rw (← c.self.view_is) (λ most. ap F (c.tick.ensures.last most))
