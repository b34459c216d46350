use Rattle.std.proofs.Common.{rules}
use Rattle.std.proofs.lemmas.Grind.{put_two}
use Rattle.card_view.proofs.Pieces.{acquirers_more}
use Rattle.card_view.proofs.ways.AcquirerLinesDisplay.fmt.Goals as goal

pub loop-row-preserved : goal.loop-row-preserved
loop-row-preserved g c =
    λ plain. put_two _ _ _ _ _ _ _ (c.loop-row.invariant plain) (search rules) (acquirers_more c.args.self.now.tables.now c.args.self.now.card.now c.acquirers-row-items.result.now c.loop-row.row-index c.row-item.result c.loop-row-test.true c.row-item.is)
