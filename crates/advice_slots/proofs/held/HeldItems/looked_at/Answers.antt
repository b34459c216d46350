use Rattle.advice_slots.proofs.Due.{due_if}
use Rattle.advice_slots.proofs.held.HeldItems.looked_at.Goals as goal

pub returns-then-now-self : goal.returns-then-now-self
returns-then-now-self c =
    let i = c.self.inside in
    rw (← c.self.view_is, c.if-ticks-self.true) (due_if (λ v. v.items) i.wheel i.ticks i.turn c.args.now c.due.result c.self.invariant.0 c.self.invariant.1 c.if-now-self.true c.due.ensures)
