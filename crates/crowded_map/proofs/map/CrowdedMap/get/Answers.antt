use Rattle.std.proofs.Common.{ap}
use Rattle.std.specs.Map.{lookup}
use Rattle.std.specs.Option.{option_or}
use Rattle.crowded_map.proofs.Lookups.{lookup_both}
use Rattle.crowded_map.proofs.map.CrowdedMap.get.Goals as goal

pub returns-in-Some : goal.returns-in-Some
returns-in-Some g c =
    let i = c.self.inside in
    let at = lookup_both (g.K.PartialEq.eq c.args.key.now) i.near.entries i.far in
    rw (← c.self.view_is, at) (ap (λ m. option_or m (lookup (g.K.PartialEq.eq c.args.key.now) i.far)) c.in-Some.ensures.value)

pub returns : goal.returns
returns g c =
    let i = c.self.inside in
    let at = lookup_both (g.K.PartialEq.eq c.args.key.now) i.near.entries i.far in
    rw (← c.self.view_is, at, ← c.in_default.ensures.value) c.get-2.ensures
