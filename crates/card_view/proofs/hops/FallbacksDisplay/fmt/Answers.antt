use Rattle.std.proofs.Common.{rules}
use Rattle.std.proofs.lemmas.Grind.{put_two}
use Rattle.card_view.proofs.Pieces.{fallbacks_more}
use Rattle.card_view.proofs.hops.FallbacksDisplay.fmt.Goals as goal

pub loop-link-preserved : goal.loop-link-preserved
loop-link-preserved g c =
    λ plain. put_two _ _ _ _ _ _ _ (c.loop-link.invariant plain) (search rules) (fallbacks_more c.args.self.now.tables.now c.args.self.now.node c.args.self.now.links.now c.loop-link.link-index c.link-item.result c.loop-link-test.true c.link-item.is)
