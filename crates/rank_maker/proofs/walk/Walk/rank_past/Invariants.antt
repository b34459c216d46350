use Rattle.std.proofs.Common.{◌≡◌, drop}
use Rattle.net_rows.specs.Network.{Network}
use Rattle.rows_in_force.specs.LinkEnds.{AreEnds}
use Rattle.rank_maker.specs.Longest.{rank_past}
use Rattle.rank_maker.proofs.walk.Walk.rank_past.Given as goal

abbrev pub invariant-loop-link : goal.invariant-loop-link
invariant-loop-link l = (t : Network) → AreEnds t l.ends → rank_past t l.self.marks l.node l.rank (drop l.link-index l.links) ≡ rank_past t l.self.marks l.node 0 l.links
