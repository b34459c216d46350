use Rattle.std.proofs.Common.{◌∙◌, add-one}
use Rattle.net_threads.proofs.Pumps.{ring_count}
use Rattle.net_threads.proofs.station.Station.pump_by.Goals as goal

pub loop-k-preserved : goal.loop-k-preserved
loop-k-preserved c =
    (ring_count _ _ _ _ _ _ c.pump_ring.ensures ∙ c.loop-k.invariant.0, rw add-one (c.loop-k.self, c.loop-k.held, c.loop-k.invariant.1, c.pump_ring.ensures))
