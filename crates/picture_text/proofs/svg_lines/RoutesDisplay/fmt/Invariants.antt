use Rattle.std.proofs.Common.{take}
use Rattle.std.specs.Fmt.{HasWritten, IsPlainFormatter}
use Rattle.picture_text.specs.Svg.{arrow_lines}
use Rattle.picture_text.proofs.svg_lines.RoutesDisplay.fmt.Given as goal

abbrev pub invariant-loop-arrow : goal.invariant-loop-arrow
invariant-loop-arrow g l = IsPlainFormatter l.initial.f → HasWritten g.W.Write.write_str_gives l.initial.f (arrow_lines l.boxes (take l.arrow-index l.arrow-items)) l.f
