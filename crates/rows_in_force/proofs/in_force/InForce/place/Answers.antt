use Rattle.std.proofs.Common.{length}
use Rattle.rows_in_force.proofs.Within.{place_within, front_within}
use Rattle.rows_in_force.proofs.in_force.InForce.place.Goals as goal

pub returns-clause-within : goal.returns-clause-within
returns-clause-within g c =
    let count = length c.self.inside.rows.now in
    let here = front_within count c.self.inside.fronts.places.items _ c.at.result.now c.self.invariant.within c.at.ensures in
    rw (← c.self.view_is, c.place_of.ensures) (place_within count c.at.result.now c.args.node here)
