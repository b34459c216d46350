use Rattle.crowded_map.proofs.Lookups.{lookup_both}
use Rattle.crowded_map.proofs.map.CrowdedMap.remove.Goals as goal

pub returns-clause-old : goal.returns-clause-old
returns-clause-old g c =
    let i = c.self.inside in
    rw (← c.self.view_is, lookup_both (g.K.PartialEq.eq c.args.key.now) i.near.entries i.far) c.take.ensures.old

pub returns-clause-updates : goal.returns-clause-updates
returns-clause-updates g c = λ q.
    let i = c.self.inside in
    let E = g.K.PartialEq.eq in
    rw (← c.self.view_is, lookup_both (E q) i.near.entries i.far, lookup_both (E q) c.take.new.near.entries c.take.new.far) (c.take.ensures.updates q)
