use Rattle.std.proofs.Common.{◌≡◌, inl, ap, ◌∙◌, length}
use Rattle.tick_wheel.specs.Wheel.{WheelView}
use Rattle.advice_slots.specs.declared.item.Held.{Held}
use Rattle.advice_slots.proofs.Standing.{grown_length, grown_listed, grown_turning, same_listed, same_turning}
use Rattle.advice_slots.proofs.held.HeldItems.reserve.Goals as goal

pub invariant_of-self-2 : goal.invariant_of-self-2
invariant_of-self-2 c =
    let i = c.self.inside in
    let g = c.in_ok-grow_heads.ensures.ok in
    let w = c.grow_heads.new.self in
    let e = c.room.ensures in
    let t = grown_turning i.wheel w i.ticks i.turn c.self.invariant.0 (ap (λ (v : WheelView Held). v.waiting) g) (ap (λ (v : WheelView Held). v.link.lists) g) in
    let l = grown_listed i.wheel w i.ticks c.self.invariant.1 (ap (λ (v : WheelView Held). v.slots) g) (ap (λ (v : WheelView Held). v.card.lists) g) (ap (λ (v : WheelView Held). v.link.lists) g) in
    let all : length w.link.lists ≡ i.ticks = ap (λ (v : WheelView Held). length v.link.lists) g ∙ grown_length i.wheel i.ticks c.self.invariant.0.heads in (
      same_turning w c.room.new.self i.ticks i.turn t (inl (ap (λ (v : WheelView Held). length v.link.lists) e.lists ∙ all)) (ap (λ (v : WheelView Held). v.waiting) e.lists) (ap (λ (v : WheelView Held). v.link.lists) e.lists),
      same_listed w c.room.new.self i.ticks l e.values (ap (λ (v : WheelView Held). v.card.lists) e.lists) (ap (λ (v : WheelView Held). v.link.lists) e.lists),
    )
