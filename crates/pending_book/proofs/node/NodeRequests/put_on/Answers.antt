use Rattle.pending_book.proofs.Found.{if_same, link_found}
use Rattle.pending_book.proofs.node.NodeRequests.put_on.Goals as goal

pub returns : goal.returns
returns c =
    let i = c.self.inside in
    rw (← c.self.view_is) (record { exact = if_same (λ v. v.items) c.on_link.result (link_found i.waits i.waiting.count i.is_timely i.rows.items i.waiting.waits c.self.invariant.0.waiting c.args.link) c.on_link.ensures.exact })
