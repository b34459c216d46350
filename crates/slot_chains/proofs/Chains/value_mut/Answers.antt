use Rattle.slot_chains.proofs.Held.{kept_written}
use Rattle.slot_chains.proofs.Chains.value_mut.Goals as goal

pub invariant_of-self-lent : goal.invariant_of-self-lent
invariant_of-self-lent g c w =
    let held = rw (← c.self.view_is) at c.requires in
    kept_written c.self.inside.slots c.self.inside.capacity c.self.inside.limit c.self.inside.bucket c.self.inside.card c.self.inside.link c.self.invariant c.index.result w (rw c.index.ensures held)
