use Rattle.step_refusals.proofs.Loads.{one_more}
use Rattle.step_refusals.proofs.places.has_no_place.Goals as goal

pub returns-then-not-is_at_home : goal.returns-then-not-is_at_home
returns-then-not-is_at_home c =
    rw (← c.if-not-is_at_home.ensures, ← c.load.ensures c.args.tables.now c.args.node, ← c.given_up.ensures, ← c.saturating_sub-load.ensures) (one_more 65536 c.saturating_sub-load.result)
