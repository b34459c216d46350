use Rattle.crowded_map.proofs.Lookups.{same_first}
use Rattle.crowded_map.proofs.map.CrowdedMap.reserve.Goals as goal

pub returns-in_err-recount-clause-entries : goal.returns-in_err-recount-clause-entries
returns-in_err-recount-clause-entries g c = rw (← c.self.view_is) (same_first g.K.PartialEq.eq c.self.inside.near.entries c.reserve.new.self.entries c.self.inside.far c.reserve.ensures.entries.2)

pub returns-in_ok-recount-clause-entries : goal.returns-in_ok-recount-clause-entries
returns-in_ok-recount-clause-entries g c = rw (← c.self.view_is) (same_first g.K.PartialEq.eq c.self.inside.near.entries c.reserve.new.self.entries c.self.inside.far c.reserve.ensures.entries.2)

pub returns-else-are_behind-clause-entries : goal.returns-else-are_behind-clause-entries
returns-else-are_behind-clause-entries g c = rw (← c.self.view_is) (same_first g.K.PartialEq.eq c.self.inside.near.entries c.reserve.new.self.entries c.self.inside.far c.reserve.ensures.entries.2)
