use Rattle.std.proofs.Common.{arith, subst}
use Rattle.std.proofs.lemmas.List.{take_all}
use Rattle.link_rings.specs.Rings.{Sends}
use Rattle.link_rings.proofs.Parts.{sends_same}
use Rattle.net_threads.specs.Station.{puts_of}
use Rattle.net_threads.proofs.Sends.{sends_next}
use Rattle.net_threads.proofs.sending.send_all.Goals as goal

pub loop-output-init : goal.loop-output-init
loop-output-init c = sends_same _ _

pub loop-output-preserved : goal.loop-output-preserved
loop-output-preserved c = sends_next c.args.outputs.now c.loop-output.output-index c.output-item.result _ _ _ (omega arith) c.output-item.is c.loop-output.invariant c.send_one.ensures

pub returns : goal.returns
returns c = subst (λ z. Sends (puts_of z) c.args.rings.now c.loop-output.rings) (take_all c.loop-output.output-index c.args.outputs.now (omega arith)) c.loop-output.invariant
