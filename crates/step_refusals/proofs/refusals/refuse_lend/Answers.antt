use Rattle.std.proofs.Common.{refl}
use Rattle.std.proofs.lemmas.Bool.{le-leb, lt-leb}
use Rattle.node_machine.specs.Machine.{refuse}
use Rattle.step_refusals.proofs.Loads.{one_more}
use Rattle.step_refusals.proofs.refusals.refuse_lend.Goals as goal

pub returns-then-load-ge-PLACES : goal.returns-then-load-ge-PLACES
unfolding refuse
returns-then-load-ge-PLACES c =
    rw (← c.if-may_not_lend.ensures, ← c.load.ensures c.args.tables.now c.args.node, ← one_more 65536 c.load.result, le-leb 65536 c.load.result c.if-load-ge-PLACES.true) refl

pub returns : goal.returns
unfolding refuse
returns c =
    rw (← c.if-may_not_lend.ensures, ← c.load.ensures c.args.tables.now c.args.node, ← one_more 65536 c.load.result, lt-leb 65536 c.load.result c.if-load-ge-PLACES.false) refl
