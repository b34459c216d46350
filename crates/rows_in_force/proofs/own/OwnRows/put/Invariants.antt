use Rattle.std.proofs.Common.{◌+◌}
use Rattle.std.specs.Option.{option_map_or}
use Rattle.rows_in_force.proofs.Put.{IsPut}
use Rattle.rows_in_force.proofs.own.OwnRows.put.Given as goal

abbrev pub invariant-loop-next : goal.invariant-loop-next
invariant-loop-next g l = IsPut g.R.Placed.node_of g.R.Placed.prefix_of l.rows l.prefix l.fn.places l.next l.places

abbrev pub decreases-loop-next : goal.decreases-loop-next
decreases-loop-next g l = option_map_or (λ i. i + 1) l.next 0
