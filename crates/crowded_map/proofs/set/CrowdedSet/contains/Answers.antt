use Rattle.std.proofs.Common.{sym, ◌∙◌}
use Rattle.crowded_map.proofs.Keys.{among_keys}
use Rattle.crowded_map.proofs.set.CrowdedSet.contains.Goals as goal

pub returns : goal.returns
returns g c = rw (← c.self.view_is) (c.contains_key.ensures ∙ sym (among_keys (g.K.PartialEq.eq c.args.key.now) c.self.inside.map.entries))
