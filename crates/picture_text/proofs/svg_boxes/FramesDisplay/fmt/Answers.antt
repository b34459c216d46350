use Rattle.std.proofs.Common.{rules}
use Rattle.std.proofs.lemmas.Grind.{put_two}
use Rattle.picture_text.specs.Svg.{frame}
use Rattle.picture_text.proofs.Pieces.{piece_more}
use Rattle.picture_text.proofs.svg_boxes.FramesDisplay.fmt.Goals as goal

pub loop-node-preserved : goal.loop-node-preserved
loop-node-preserved g c =
    λ plain. put_two _ _ _ _ _ _ _ (c.loop-node.invariant plain) (search rules) (piece_more frame c.args.self.now.boxes.now c.loop-node.node-index c.node-item.result c.loop-node-test.true c.node-item.is)
