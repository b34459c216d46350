use Rattle.std.proofs.Common.{take}
use Rattle.link_rings.specs.Rings.{Sends}
use Rattle.net_threads.specs.Station.{puts_of}
use Rattle.net_threads.proofs.sending.send_all.Given as goal

abbrev pub invariant-loop-output : goal.invariant-loop-output
invariant-loop-output l = Sends (puts_of (take l.output-index l.outputs)) l.fn.rings l.rings
