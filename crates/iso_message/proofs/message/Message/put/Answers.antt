use Rattle.std.proofs.Common.{ap}
use Rattle.std.proofs.Math.Facts.{Fits-lt-pow}
use Rattle.std.proofs.lemmas.Result.{on_ok_weaker}
use Rattle.iso_message.specs.Fields.{Fields, set_element}
use Rattle.iso_message.proofs.MessageLemmas.{put_stays, either, settable}
use Rattle.iso_message.proofs.message.Message.put.Goals as goal

pub put-requires : goal.put-requires
put-requires c = record { good = (settable c.args.number c.args.value.now (λ i. Fits-lt-pow (c.type_inv.value i)) c.requires).2 }

pub invariant_of-self : goal.invariant_of-self
invariant_of-self c =
    either c.put.result c.put.ensures.ok c.put.ensures.err
    (λ e. rw e (put_stays c.self.inside.kind c.args.number c.args.value.now c.self.inside.elements (λ i. Fits-lt-pow (c.type_inv.value i)) c.requires c.self.invariant))
    (λ e. rw e c.self.invariant)

pub returns : goal.returns
unfolding set_element
returns c = on_ok_weaker c.put.result (λ e. rw e (ap (λ (m : Fields). set_element m c.args.number c.args.value.now) c.self.view_is)) c.put.ensures.ok
