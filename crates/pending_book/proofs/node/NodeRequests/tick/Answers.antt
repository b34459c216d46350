use Rattle.std.proofs.Common.{rules, ap, arith}
use Rattle.request_slots.specs.Waits.{SlotsView}
use Rattle.pending_book.proofs.NodeWaiting.{kept_turned, due_over}
use Rattle.pending_book.proofs.node.NodeRequests.tick.Goals as goal

pub invariant_of-self : goal.invariant_of-self
invariant_of-self c =
    let i = c.self.inside in
    (kept_turned i.rows.items i.places.entries i.pending i.waits i.waiting c.tick.new.self i.is_timely (ap (λ (s : SlotsView). s.waits) c.tick.ensures.slots) (ap (λ (s : SlotsView). s.count) c.tick.ensures.slots) c.self.invariant.0, search rules)

pub returns-clause-visits : goal.returns-clause-visits
returns-clause-visits c =
    let i = c.self.inside in
    let fewer = due_over i.waits i.waiting.count i.is_timely i.rows.items i.waiting.waits c.self.invariant.0.waiting in
    let seen = c.tick.ensures.visits in
    rw (← c.self.view_is) (omega (arith, fewer, seen))
