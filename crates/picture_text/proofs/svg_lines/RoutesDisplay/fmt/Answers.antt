use Rattle.std.proofs.Common.{rules}
use Rattle.std.proofs.lemmas.Grind.{put_two}
use Rattle.picture_text.specs.Svg.{arrow_line}
use Rattle.picture_text.proofs.Pieces.{piece_more}
use Rattle.picture_text.proofs.svg_lines.RoutesDisplay.fmt.Goals as goal

pub loop-arrow-preserved : goal.loop-arrow-preserved
loop-arrow-preserved g c =
    λ plain. put_two _ _ _ _ _ _ _ (c.loop-arrow.invariant plain) (search rules) (piece_more (arrow_line c.args.self.now.boxes.now) c.args.self.now.arrows.now c.loop-arrow.arrow-index c.arrow-item.result c.loop-arrow-test.true c.arrow-item.is)
