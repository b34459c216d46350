use Rattle.crowded_map.proofs.Lookups.{lookup_both}
use Rattle.crowded_map.proofs.map.CrowdedMap.replace.Goals as goal

pub returns-clause-old : goal.returns-clause-old
returns-clause-old g c =
    let i = c.self.inside in
    rw (← c.self.view_is, lookup_both (g.K.PartialEq.eq c.args.key.now) i.near.entries i.far) c.put_again.ensures.old

pub returns-clause-updates : goal.returns-clause-updates
returns-clause-updates g c = λ q.
    let i = c.self.inside in
    let E = g.K.PartialEq.eq in
    rw (← c.self.view_is, lookup_both (E q) i.near.entries i.far, lookup_both (E q) c.put_again.new.near.entries c.put_again.new.far) (c.put_again.ensures.updates q)
