use Rattle.std.proofs.Common.{◌∙◌}
use Rattle.advice_store.proofs.Nodes.{any_put}
use Rattle.advice_store.proofs.node.NodeAdvices.was_put.Goals as goal

pub returns : goal.returns
returns c = let i = c.self.inside in rw (← c.self.view_is) (c.was_put.ensures ∙ any_put i.lenders i.store.items c.self.invariant c.args.id)
