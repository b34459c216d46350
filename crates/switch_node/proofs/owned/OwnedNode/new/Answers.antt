use Rattle.switch_node.proofs.owned.OwnedNode.new.Goals as goal

pub invariant_of-result : goal.invariant_of-result
invariant_of-result c = rw (c.in_ok-state.ensures.node, c.in_ok-state.ensures.trace) c.in_ok-state.ensures.is_node
