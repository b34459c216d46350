use Rattle.std.proofs.Common.{rules}
use Rattle.std.proofs.Common.{◌≡◌, ◌∙◌, ap, sym, suc, subst, length, arith, ◌+◌}
use Rattle.request_slots.specs.Waits.{count_due, held_waits}
use Rattle.tick_wheel.specs.Wheel.{WheelView, due_after}
use Rattle.request_slots.specs.declared.wait.Wait.{Wait}
use Rattle.request_slots.proofs.Due.{due_counted}
use Rattle.request_slots.proofs.Waiting.{kept_turned}
use Rattle.request_slots.proofs.slots.RequestSlots.tick.Goals as goal

pub invariant_of-self : goal.invariant_of-self
invariant_of-self c =
    let i = c.self.inside in
    rw c.advance.ensures.wheel (kept_turned i.wheel i.slots.items i.count c.self.invariant.0, search rules)

pub returns-clause-visits : goal.returns-clause-visits
returns-clause-visits c =
    let i = c.self.inside in
    let all = due_counted i.wheel i.slots.items i.count c.self.invariant.0 in
    let next : suc i.count ≡ i.count + 1 = omega arith in
    let due : count_due (i.count + 1) (held_waits i.wheel.slots i.slots.items) ≡ length (due_after i.wheel 0) = subst (λ n. count_due n (held_waits i.wheel.slots i.slots.items) ≡ length (due_after i.wheel 0)) next all in
    let seen = ap (λ (w : WheelView Wait). w.visits) c.advance.ensures.wheel in
    rw (← c.self.view_is) (seen ∙ sym (ap (λ n. n + 1) due))
