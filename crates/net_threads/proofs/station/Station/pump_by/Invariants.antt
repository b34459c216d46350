use Rattle.std.proofs.Common.{◌≡◌, length}
use Rattle.net_threads.specs.Pumping.{PumpsRings}
use Rattle.net_threads.proofs.station.Station.pump_by.Given as goal

abbrev pub invariant-loop-k : goal.invariant-loop-k
invariant-loop-k l = (length l.self.ins ≡ l.k-end) × PumpsRings l.faults.links.items l.k l.fn.self l.initial.held l.self l.held
