use Rattle.pending_book.proofs.Found.{due_found, if_same}
use Rattle.pending_book.proofs.node.NodeRequests.due.Goals as goal

pub returns-then-self : goal.returns-then-self
returns-then-self c =
    let i = c.self.inside in
    rw (← c.self.view_is) (record { exact = if_same (λ v. v.items) c.due.result (due_found i.waits i.waiting.count i.is_timely i.rows.items i.waiting.waits c.self.invariant.0.waiting c.if-self.true) c.due.ensures.exact })
