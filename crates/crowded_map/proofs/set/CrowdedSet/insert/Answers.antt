use Rattle.crowded_map.proofs.Keys.{among_put}
use Rattle.crowded_map.proofs.set.CrowdedSet.insert.Goals as goal

pub returns-clause-keys : goal.returns-clause-keys
returns-clause-keys g c = rw (← c.self.view_is) (among_put g.K.PartialEq.eq c.args.key _ c.self.inside.map.entries c.insert.new.self.entries c.insert.ensures.updates)
