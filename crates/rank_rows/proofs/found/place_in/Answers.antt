use Rattle.std.proofs.Common.{arith}
use Rattle.rank_rows.proofs.ByName.{none_below}
use Rattle.rank_rows.proofs.found.place_in.Goals as goal

pub returns : goal.returns
returns c = none_below c.args.names.now c.args.node.now c.loop-at.at (omega arith) c.loop-at.invariant
