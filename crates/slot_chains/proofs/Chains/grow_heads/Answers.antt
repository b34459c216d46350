use Rattle.slot_chains.specs.Chains.{bounded}
use Rattle.slot_chains.specs.declared.family.Family.TheVariants.{Bucket, Card, Link}
use Rattle.slot_chains.proofs.Held.{sound_heads, kept_with}
use Rattle.slot_chains.proofs.Chains.grow_heads.Goals as goal

pub invariant_of-self : goal.invariant_of-self
invariant_of-self g c = kept_with c.self.inside.slots c.self.inside.capacity c.self.inside.limit c.self.inside.bucket c.self.inside.card c.self.inside.link c.self.invariant Bucket _ (sound_heads (bounded c.self.inside.slots c.self.inside.limit) c.self.inside.bucket c.self.inside.card c.self.inside.link c.self.invariant.sound c.grow_heads.result Bucket c.args.heads c.grow_heads.new.self c.grow_heads.ensures.ok c.grow_heads.ensures.err)

pub invariant_of-self-in-Card : goal.invariant_of-self-in-Card
invariant_of-self-in-Card g c = kept_with c.self.inside.slots c.self.inside.capacity c.self.inside.limit c.self.inside.bucket c.self.inside.card c.self.inside.link c.self.invariant Card _ (sound_heads (bounded c.self.inside.slots c.self.inside.limit) c.self.inside.bucket c.self.inside.card c.self.inside.link c.self.invariant.sound c.grow_heads-in-Card.result Card c.args.heads c.grow_heads-in-Card.new.self c.grow_heads-in-Card.ensures.ok c.grow_heads-in-Card.ensures.err)

pub invariant_of-self-in-Link : goal.invariant_of-self-in-Link
invariant_of-self-in-Link g c = kept_with c.self.inside.slots c.self.inside.capacity c.self.inside.limit c.self.inside.bucket c.self.inside.card c.self.inside.link c.self.invariant Link _ (sound_heads (bounded c.self.inside.slots c.self.inside.limit) c.self.inside.bucket c.self.inside.card c.self.inside.link c.self.invariant.sound c.grow_heads-in-Link.result Link c.args.heads c.grow_heads-in-Link.new.self c.grow_heads-in-Link.ensures.ok c.grow_heads-in-Link.ensures.err)
