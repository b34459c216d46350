use Rattle.std.proofs.Common.{◌≡◌, length}
use Rattle.rows_in_force.specs.InForce.{AreKnown}
use Rattle.rows_in_force.specs.Kept.{AreFronts, AreAllWithin}
use Rattle.rows_in_force.specs.Own.{IsChained}
use Rattle.rows_in_force.proofs.in_force.InForce.enter.Given as goal

abbrev pub invariant-loop-len : goal.invariant-loop-len
invariant-loop-len g l = record {
  rows : l.self-inside.rows.now ≡ l.fn.self.rows;
  chained : IsChained g.R.Placed.prefix_of l.self-inside.rows.now l.self-inside.own.last.entries l.self-inside.own.before.items;
  fronts : AreFronts l.self-inside.fronts.slots.items l.self-inside.fronts.places.items;
  known : AreKnown g.R.Placed.node_of g.R.Placed.prefix_of l.self-inside.rows.now l.class l.len l.self-inside.fronts.slots.items l.self-inside.fronts.places.items;
  within : AreAllWithin (length l.self-inside.rows.now) l.self-inside.fronts.places.items;
}
