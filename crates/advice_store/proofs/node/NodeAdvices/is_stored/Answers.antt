use Rattle.std.proofs.Common.{◌∙◌}
use Rattle.advice_store.proofs.Nodes.{any_id}
use Rattle.advice_store.proofs.node.NodeAdvices.is_stored.Goals as goal

pub returns : goal.returns
returns c = let i = c.self.inside in rw (← c.self.view_is) (c.holds.ensures ∙ any_id i.lenders i.store.items c.self.invariant c.args.id)
