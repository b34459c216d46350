use Rattle.net_rows.proofs.Tries.{indexed_next}
use Rattle.net_rows.proofs.rows.tries_of.Goals as goal

pub loop-i-preserved : goal.loop-i-preserved
loop-i-preserved g c =
    indexed_next g.R.Prefixed.node_of g.R.Prefixed.prefix_of c.args.rows.now c.loop-i.i c.index-rows-i.result c.loop-i.tries.items c.add.new.tries.items c.loop-i-test.true c.index-rows-i.is c.loop-i.invariant c.of.ensures.form
    (rw c.of.ensures.key at c.in_ok-add.ensures)
