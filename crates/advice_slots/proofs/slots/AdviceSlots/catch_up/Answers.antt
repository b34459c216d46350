use Rattle.std.proofs.Common.{rules, arith, ◌≡◌, ◌<◌, ◌+◌, ◌-◌, ℕ, subst}
use Rattle.advice_slots.specs.Kept.{AreHeld}
use Rattle.advice_slots.proofs.Changed.{passed_held}
use Rattle.advice_slots.proofs.slots.AdviceSlots.catch_up.Goals as goal

pub invariant_of-self : goal.invariant_of-self
invariant_of-self c =
    let i = c.self.inside in
    let n = c.min-count.result in
    let least = c.min-count.ensures in
    let lt : i.count < c.min-count.result = search rules in
    let same : i.count + (n - i.count) ≡ n = omega (arith, lt) in
    subst (λ (k : ℕ). AreHeld c.pass.new.self i.several i.places.slots.entries k) same (passed_held i.held i.places.slots.entries i.several i.count c.self.invariant c.pass.new.self (n - i.count) (omega (arith, lt, least)) c.pass.ensures.turn c.pass.ensures.rest)
