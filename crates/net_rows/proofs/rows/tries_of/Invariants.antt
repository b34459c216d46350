use Rattle.std.proofs.Common.{take}
use Rattle.net_rows.specs.Index.{IsIndexed}
use Rattle.net_rows.proofs.rows.tries_of.Given as goal

abbrev pub invariant-loop-i : goal.invariant-loop-i
invariant-loop-i g l = IsIndexed g.R.Prefixed.node_of g.R.Prefixed.prefix_of (take l.i l.rows) l.tries.items
