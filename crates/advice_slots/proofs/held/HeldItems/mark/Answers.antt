use Rattle.std.proofs.Common.{inl, inr, ap, ◌∙◌, length}
use Rattle.advice_slots.specs.Kept.{HasClasses}
use Rattle.tick_wheel.specs.Wheel.{WheelView}
use Rattle.advice_slots.specs.declared.item.Held.{Held}
use Rattle.advice_slots.proofs.Standing.{marked_listed, same_turning}
use Rattle.advice_slots.proofs.held.HeldItems.mark.Goals as goal

pub invariant_of-self : goal.invariant_of-self
invariant_of-self c =
    let i = c.self.inside in
    let e = c.mark_in.ensures in
    let classes : HasClasses c.mark_in.new.wheel i.ticks =
    elim c.self.invariant.0.heads [
      | inl h ↦ inl (ap (λ (w : WheelView Held). length w.link.lists) e.rest ∙ h)
      | inr none ↦ inr (ap (λ (w : WheelView Held). w.link.lists) e.rest ∙ none.0, e.capacity ∙ none.1)
    ] in (
      same_turning i.wheel c.mark_in.new.wheel i.ticks i.turn c.self.invariant.0 classes (ap (λ (w : WheelView Held). w.waiting) e.rest) (ap (λ (w : WheelView Held). w.link.lists) e.rest),
      marked_listed i.wheel c.mark_in.new.wheel i.ticks c.args.slot c.args.id c.self.invariant.1 e.slots e.rest,
    )
