use Rattle.std.proofs.Common.{rules}
use Rattle.std.proofs.lemmas.Grind.{put_two}
use Rattle.picture_text.specs.Svg.{link_label}
use Rattle.picture_text.proofs.Pieces.{piece_more}
use Rattle.picture_text.proofs.svg_lines.LabelsDisplay.fmt.Goals as goal

pub loop-link-preserved : goal.loop-link-preserved
loop-link-preserved g c =
    λ plain. put_two _ _ _ _ _ _ _ (c.loop-link.invariant plain) (search rules) (piece_more (link_label c.args.self.now.boxes.now) c.args.self.now.links.now c.loop-link.link-index c.link-item.result c.loop-link-test.true c.link-item.is)
