use Rattle.std.proofs.Common.{◌≡◌, length}
use Rattle.net_threads.specs.Pumping.{SeesNone, with_ins}
use Rattle.net_threads.proofs.station.Station.has_packets.Given as goal

abbrev pub invariant-loop-k : goal.invariant-loop-k
invariant-loop-k l = (length l.self.ins ≡ l.k-end) × (l.self ≡ with_ins l.fn.self l.self.ins) × SeesNone l.k l.fn.self.ins l.self.ins
