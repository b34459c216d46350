use Rattle.std.proofs.Common.{[], ◌++◌, map}
use Rattle.net_rows.specs.declared.row.Issuer.{Issuer}
use Rattle.net_rows.specs.declared.row.Route.{Route}
use Rattle.net_rows.specs.declared.row.StandIn.{StandIn}
use Rattle.card_view.proofs.Prefixes.{row_step}
use Rattle.card_view.proofs.class.class_of.Goals as goal

pub loop-row-preserved : goal.loop-row-preserved
loop-row-preserved c =
    row_step (λ (r : Issuer). r.prefix) [] c.issuers-row-items.result.now c.loop-row.row-index c.row-item.result c.args.card.now _ _ c.loop-row-test.true c.row-item.is c.loop-row.invariant c.longer-longest.ensures

pub loop-row-2-preserved : goal.loop-row-2-preserved
loop-row-2-preserved c =
    row_step (λ (r : Route). r.prefix) (map (λ (r : Issuer). r.prefix) c.args.tables.now.issuers) c.routes-row-items.result.now c.loop-row-2.row-index c.row-item-in-loop-row-2.result c.args.card.now _ _ c.loop-row-2-test.true c.row-item-in-loop-row-2.is c.loop-row-2.invariant c.longer-longest-in-loop-row-2.ensures

pub loop-row-3-preserved : goal.loop-row-3-preserved
loop-row-3-preserved c =
    row_step (λ (r : StandIn). r.prefix) (map (λ (r : Issuer). r.prefix) c.args.tables.now.issuers ++ map (λ (r : Route). r.prefix) c.args.tables.now.routes) c.stand_ins-row-items.result.now c.loop-row-3.row-index c.row-item-in-loop-row-3.result c.args.card.now _ _ c.loop-row-3-test.true c.row-item-in-loop-row-3.is c.loop-row-3.invariant c.longer-longest-in-loop-row-3.ensures
