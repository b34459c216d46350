use Rattle.std.proofs.Common.{take}
use Rattle.std.specs.Fmt.{HasWritten, IsPlainFormatter}
use Rattle.picture_text.specs.Svg.{frames}
use Rattle.picture_text.proofs.svg_boxes.FramesDisplay.fmt.Given as goal

abbrev pub invariant-loop-node : goal.invariant-loop-node
invariant-loop-node g l = IsPlainFormatter l.initial.f → HasWritten g.W.Write.write_str_gives l.initial.f (frames (take l.node-index l.node-items)) l.f
