use Rattle.std.proofs.Common.{ap, ◌∙◌, not, eqb}
use Rattle.iso_message.specs.Fields.{Fields, remove_element}
use Rattle.iso_message.proofs.MessageLemmas.{without_is, ascends_kept, good_kept}
use Rattle.iso_message.proofs.message.Message.remove.Goals as goal

pub invariant_of-self : goal.invariant_of-self
invariant_of-self c =
    let e = c.remove.ensures ∙ without_is c.args.number c.self.inside.elements in
    record {
      order = rw e (ascends_kept 1 128 (λ x. not (eqb x.0 c.args.number)) c.self.inside.elements c.self.invariant.order);
      values = rw e (good_kept (λ x. not (eqb x.0 c.args.number)) c.self.inside.elements c.self.invariant.values);
    }

pub returns : goal.returns
unfolding remove_element
returns c = rw c.remove.ensures (ap (λ (m : Fields). remove_element m c.args.number) c.self.view_is)
