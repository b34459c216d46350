use Rattle.std.proofs.Common.{◌≡◌, ◌-◌, ap, ◌∙◌}
use Rattle.std.proofs.Math.ListN.{set}
use Rattle.chain_links.specs.Lists.{list_at}
use Rattle.slab.specs.Slab.{Slab, get}
use Rattle.tick_wheel.specs.Wheel.{WheelView, advanced}
use Rattle.advice_slots.specs.declared.item.Held.{Held}
use Rattle.advice_slots.proofs.Turning.{after_rest, turned_buckets, turned_free, turned_none, turned_turning}
use Rattle.advice_slots.proofs.Standing.{link_ordered, same_listed}
use Rattle.advice_slots.proofs.Due.{turn_visits}
use Rattle.advice_slots.proofs.held.HeldItems.tick.Goals as goal

pub arm_class-requires-clause-held : goal.arm_class-requires-clause-held
arm_class-requires-clause-held c =
    let i = c.self.inside in
    rw c.advance.ensures.wheel (λ slot m. c.self.invariant.1.held slot (link_ordered i.wheel i.ticks i.turn c.self.invariant.0 c.self.invariant.1 slot (i.turn, m)))

pub arm_class-requires-clause-unarmed : goal.arm_class-requires-clause-unarmed
arm_class-requires-clause-unarmed c =
    let i = c.self.inside in
    rw c.advance.ensures.wheel (λ slot m. turned_free i.wheel i.ticks i.turn c.self.invariant.0 c.first.ensures.apart slot m)

pub arm_class-requires-clause-none : goal.arm_class-requires-clause-none
arm_class-requires-clause-none c = let i = c.self.inside in rw c.advance.ensures.wheel (turned_none i.wheel i.ticks i.turn c.self.invariant.0)

pub arm_class-requires-clause-buckets : goal.arm_class-requires-clause-buckets
arm_class-requires-clause-buckets c = let i = c.self.inside in rw c.advance.ensures.wheel (turned_buckets i.wheel i.ticks i.turn c.self.invariant.0)

pub invariant_of-self : goal.invariant_of-self
invariant_of-self c =
    let i = c.self.inside in
    let e = c.arm_class.ensures in
    let f = c.advance.ensures.wheel in
    let link : c.arm_class.new.wheel.link ≡ i.wheel.link = ap (λ (w : WheelView Held). w.link) e ∙ ap (λ (w : WheelView Held). w.link) f in
    let card : c.arm_class.new.wheel.card ≡ i.wheel.card = ap (λ (w : WheelView Held). w.card) e ∙ ap (λ (w : WheelView Held). w.card) f in
    let slots : c.arm_class.new.wheel.slots ≡ i.wheel.slots = ap (λ (w : WheelView Held). w.slots) e ∙ ap (λ (w : WheelView Held). w.slots) f in
    let waiting : c.arm_class.new.wheel.waiting ≡ set (advanced i.wheel).waiting (i.ticks - 1) (list_at i.wheel.link i.turn) =
    ap (λ (w : WheelView Held). w.waiting) e ∙ ap (λ (w : WheelView Held). set w.waiting (i.ticks - 1) (list_at w.link i.turn)) f in
    rw c.turn_after-self-inside.ensures (
      turned_turning i.wheel i.ticks i.turn c.self.invariant.0 c.arm_class.new.wheel slots link waiting,
      same_listed i.wheel c.arm_class.new.wheel i.ticks c.self.invariant.1 (λ k. ap (λ (s : Slab Held). get s k) slots) (ap (λ l. l.lists) card) (ap (λ l. l.lists) link),
    )

pub returns-clause-visits : goal.returns-clause-visits
returns-clause-visits c =
    let i = c.self.inside in
    let visits : c.arm_class.new.wheel.visits ≡ (advanced i.wheel).visits = ap (λ (w : WheelView Held). w.visits) c.arm_class.ensures ∙ ap (λ (w : WheelView Held). w.visits) c.advance.ensures.wheel in
    rw (← c.self.view_is) (visits ∙ turn_visits i.wheel i.ticks i.turn c.self.invariant.0 c.self.invariant.1)

pub returns-clause-turn : goal.returns-clause-turn
returns-clause-turn c =
    let i = c.self.inside in
    rw (← c.self.view_is) (c.turn_after-self-inside.ensures ∙ after_rest i.ticks i.turn c.self.invariant.0.within)
