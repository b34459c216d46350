use Rattle.std.proofs.Common.{refl}
use Rattle.advice_slots.proofs.Changed.{same_held}
use Rattle.advice_slots.proofs.slots.AdviceSlots.reserve.Goals as goal

pub invariant_of-self : goal.invariant_of-self
invariant_of-self c =
    let i = c.self.inside in
    let r = c.reserve.ensures in
    same_held i.held c.reserve.new.self i.places.slots.entries i.places.slots.entries i.several i.count r.values r.rest (λ k. refl) c.self.invariant

pub invariant_of-self-2 : goal.invariant_of-self-2
invariant_of-self-2 c =
    let i = c.self.inside in
    let r = c.reserve.ensures in
    same_held i.held c.reserve.new.self i.places.slots.entries c.reserve-2.new.self.slots.entries i.several i.count r.values r.rest c.reserve-2.ensures.slots c.self.invariant
