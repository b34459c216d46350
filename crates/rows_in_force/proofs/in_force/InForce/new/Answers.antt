use Rattle.std.proofs.Common.{refl, length, arith}
use Rattle.rows_in_force.proofs.KnownFronts.{start_known}
use Rattle.rows_in_force.proofs.Within.{start_within}
use Rattle.rows_in_force.proofs.in_force.InForce.new.Goals as goal

pub invariant_of-result : goal.invariant_of-result
invariant_of-result g c = record {
  chained = c.in_ok-new.ensures;
  few = rw c.from_slice.ensures (omega arith);
  fronts = record { slots_count = rw c.in_ok-new-2.ensures.slots refl; places_count = rw c.in_ok-new-2.ensures.places refl };
  known = start_known g.R.Placed.node_of g.R.Placed.prefix_of c.args.rows.now c.from_slice.result c.in_ok-new-2.field-0.slots.items c.in_ok-new-2.field-0.places.items c.from_slice.ensures c.in_ok-new-2.ensures.slots c.in_ok-new-2.ensures.places c.in_ok-new.ensures.some_digits;
  within = rw c.in_ok-new-2.ensures.places (start_within (length c.args.rows.now) 13 64);
}
