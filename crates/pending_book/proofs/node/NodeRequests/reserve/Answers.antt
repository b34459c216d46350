use Rattle.std.proofs.Common.{rules, refl}
use Rattle.pending_book.proofs.NodeWaiting.{kept_same}
use Rattle.pending_book.proofs.node.NodeRequests.reserve.Goals as goal

pub invariant_of-self-in_err-reserve-2 : goal.invariant_of-self-in_err-reserve-2
invariant_of-self-in_err-reserve-2 c =
    let i = c.self.inside in
    let kept = kept_same i.rows.items i.places.entries c.reserve-2.new.self.entries i.pending i.waits i.waiting i.waiting i.is_timely c.reserve-2.ensures.entries refl refl c.self.invariant.0 in
    (rw c.reserve.ensures.items kept, search rules)

pub invariant_of-self-in_err-reserve-3 : goal.invariant_of-self-in_err-reserve-3
invariant_of-self-in_err-reserve-3 c =
    let i = c.self.inside in
    let kept = kept_same i.rows.items i.places.entries c.reserve-2.new.self.entries i.pending i.waits i.waiting c.reserve-3.new.self i.is_timely c.reserve-2.ensures.entries c.reserve-3.ensures.waits c.reserve-3.ensures.count c.self.invariant.0 in
    (rw c.reserve.ensures.items kept, search rules)

pub invariant_of-self-in_err-reserve-4 : goal.invariant_of-self-in_err-reserve-4
invariant_of-self-in_err-reserve-4 c =
    let i = c.self.inside in
    let kept = kept_same i.rows.items i.places.entries c.reserve-2.new.self.entries i.pending i.waits i.waiting c.reserve-3.new.self i.is_timely c.reserve-2.ensures.entries c.reserve-3.ensures.waits c.reserve-3.ensures.count c.self.invariant.0 in
    (rw c.reserve.ensures.items kept, search rules)

pub invariant_of-self-2 : goal.invariant_of-self-2
invariant_of-self-2 c =
    let i = c.self.inside in
    let kept = kept_same i.rows.items i.places.entries c.reserve-2.new.self.entries i.pending i.waits i.waiting c.reserve-3.new.self i.is_timely c.reserve-2.ensures.entries c.reserve-3.ensures.waits c.reserve-3.ensures.count c.self.invariant.0 in
    (rw c.reserve.ensures.items kept, search rules)
