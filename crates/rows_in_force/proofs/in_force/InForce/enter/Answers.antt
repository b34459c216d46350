use Rattle.std.proofs.Common.{rules, ◌<◌, length, arith}
use Rattle.rows_in_force.proofs.KnownFronts.{known_shared, known_front, known_back}
use Rattle.rows_in_force.proofs.in_force.InForce.enter.Goals as goal

pub loop-len-init : goal.loop-len-init
loop-len-init g c = record {
  rows = search rules;
  chained = c.self.invariant.chained;
  fronts = c.self.invariant.fronts;
  known = known_shared g.R.Placed.node_of g.R.Placed.prefix_of c.self.inside.rows.now c.self.inside.class c.args.class (length c.self.inside.class) c.shared-shared.result c.self.inside.fronts.slots.items c.self.inside.fronts.places.items c.self.invariant.known
      (rw c.as_slice.ensures at c.shared-shared.ensures.first) (rw (c.as_slice.ensures, c.digits.ensures.digits) at c.shared-shared.ensures.same);
  within = c.self.invariant.within;
}

pub add-requires-clause-known : goal.add-requires-clause-known
add-requires-clause-known g c =
    let within : c.loop-len.len < length c.args.class = rw c.digits-len-end.ensures.digits at c.loop-len-test.true in
    known_front g.R.Placed.node_of g.R.Placed.prefix_of c.loop-len.self-inside.rows.now c.args.class c.front.result c.loop-len.len c.loop-len.self-inside.fronts.slots.items c.loop-len.self-inside.fronts.places.items c.loop-len.invariant.known (omega arith) c.front.ensures

pub loop-len-preserved : goal.loop-len-preserved
loop-len-preserved g c =
    let within : c.loop-len.len < length c.args.class = rw c.digits-len-end.ensures.digits at c.loop-len-test.true in
    record {
      rows = c.loop-len.invariant.rows;
      chained = c.loop-len.invariant.chained;
      fronts = c.add.ensures.fronts;
      known = known_back g.R.Placed.node_of g.R.Placed.prefix_of c.loop-len.self-inside.rows.now c.args.class c.front.result c.loop-len.len c.add.new.self.slots.items c.add.new.self.places.items c.add.ensures.known (omega arith) c.front.ensures;
      within = c.add.ensures.within;
    }
