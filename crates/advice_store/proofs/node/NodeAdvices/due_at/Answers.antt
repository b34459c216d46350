use Rattle.advice_slots.proofs.Owned.{if_same}
use Rattle.advice_store.proofs.Nodes.{due_stored, own_ids}
use Rattle.advice_store.proofs.node.NodeAdvices.due_at.Goals as goal

pub due_at-requires : goal.due_at-requires
due_at-requires c = let i = c.self.inside in own_ids i.lenders i.store.items c.self.invariant

pub returns : goal.returns
returns c =
    let i = c.self.inside in
    rw (← c.self.view_is) (if_same (λ v. v.items) c.due_at.result _ _ (due_stored i.lenders i.store.items c.self.invariant c.args.ticks c.args.now) c.due_at.ensures)
