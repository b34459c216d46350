use Rattle.std.proofs.Common.{take}
use Rattle.std.specs.Fmt.{HasWritten, IsPlainFormatter}
use Rattle.picture_text.specs.Svg.{link_lines}
use Rattle.picture_text.proofs.svg_lines.LinksDisplay.fmt.Given as goal

abbrev pub invariant-loop-link : goal.invariant-loop-link
invariant-loop-link g l = IsPlainFormatter l.initial.f → HasWritten g.W.Write.write_str_gives l.initial.f (link_lines l.boxes (take l.link-index l.link-items)) l.f
