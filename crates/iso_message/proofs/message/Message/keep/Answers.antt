use Rattle.iso_message.specs.Carried.{carried_numbers}
use Rattle.iso_message.proofs.MessageLemmas.{either, kept_stays}
use Rattle.iso_message.proofs.message.Message.keep.Goals as goal

pub invariant_of-self : goal.invariant_of-self
invariant_of-self c =
    either c.keep.result c.keep.ensures.ok c.keep.ensures.err
    (λ e. rw e (kept_stays c.message.inside.kind c.self.inside.kind (carried_numbers c.args.carried) c.message.inside.elements c.message.invariant))
    (λ e. rw e c.self.invariant)
