use Rattle.crowded_map.proofs.Keys.{among_same}
use Rattle.crowded_map.proofs.set.CrowdedSet.reserve.Goals as goal

pub returns-clause-keys : goal.returns-clause-keys
returns-clause-keys g c = rw (← c.self.view_is) (among_same g.K.PartialEq.eq c.self.inside.map.entries c.reserve.new.self.entries c.reserve.ensures.entries)
