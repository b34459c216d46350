use Rattle.std.proofs.Common.{◌∙◌}
use Rattle.step_refusals.proofs.Loads.{has_room, has_none, and_false, and_true}
use Rattle.step_refusals.proofs.places.late_has_no_place.Goals as goal

pub returns-then-load-lt-PLACES : goal.returns-then-load-lt-PLACES
returns-then-load-lt-PLACES c = rw (← c.load.ensures c.args.tables.now c.args.node, has_room 65536 c.load.result c.if-load-lt-PLACES.true) (and_false _)

pub returns : goal.returns
returns c = rw (← c.load.ensures c.args.tables.now c.args.node, has_none 65536 c.load.result c.if-load-lt-PLACES.false) (c.is_late.ensures ∙ and_true _)
