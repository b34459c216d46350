use Rattle.std.proofs.Common.{◌≡◌, sym, ap, None}
use Rattle.std.proofs.Math.Facts.{Fits-lt-pow}
use Rattle.message_elements.specs.Table.{form_of}
use Rattle.message_elements.specs.Values.{set_fault}
use Rattle.iso_message.specs.Fields.{Fields, set_element}
use Rattle.iso_message.proofs.MessageLemmas.{settable, ascends_put, good_put}
use Rattle.iso_message.proofs.message.Message.set.Goals as goal

pub put-requires : goal.put-requires
put-requires c = record { good = (settable c.args.number c.args.value.now (λ i. Fits-lt-pow (c.type_inv.value i)) (sym c.in-None.ensures)).2 }

pub invariant_of-self-in-None : goal.invariant_of-self-in-None
invariant_of-self-in-None c =
    let n = c.args.number in
    let value = c.args.value.now in
    let es = c.self.inside.elements in
    let none : set_fault (form_of n) n value ≡ None = sym c.in-None.ensures in
    let may = settable n value (λ i. Fits-lt-pow (c.type_inv.value i)) none in
    let e = c.in_ok-put-in-None.ensures.ok in
    record {
      order = rw e (ascends_put 1 128 n value es may.0 may.1 c.self.invariant.order);
      values = rw e (good_put n value es may.2 c.self.invariant.values);
    }

pub returns-in_ok-put-in-None-clause-ok : goal.returns-in_ok-put-in-None-clause-ok
unfolding set_element
returns-in_ok-put-in-None-clause-ok c =
    let e = c.in_ok-put-in-None.ensures.ok in
    rw e (ap (λ (m : Fields). set_element m c.args.number c.args.value.now) c.self.view_is)

pub returns-in-Some-clause-fits : goal.returns-in-Some-clause-fits
returns-in-Some-clause-fits c = tt

pub returns-in-Some-clause-ok : goal.returns-in-Some-clause-ok
returns-in-Some-clause-ok c = tt
