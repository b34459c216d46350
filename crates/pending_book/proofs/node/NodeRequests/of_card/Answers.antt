use Rattle.pending_book.proofs.Found.{card_found, if_same}
use Rattle.pending_book.proofs.node.NodeRequests.of_card.Goals as goal

pub returns : goal.returns
returns c =
    let i = c.self.inside in
    rw (← c.self.view_is) (record { exact = if_same (λ v. v.items) c.of_card.result (card_found i.waits i.waiting.count i.is_timely i.rows.items i.waiting.waits c.self.invariant.0.waiting c.args.card.now) c.of_card.ensures.exact })
