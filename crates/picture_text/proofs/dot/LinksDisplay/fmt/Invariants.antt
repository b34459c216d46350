use Rattle.std.proofs.Common.{take}
use Rattle.std.specs.Fmt.{HasWritten, IsPlainFormatter}
use Rattle.picture_text.specs.Dot.{link_texts}
use Rattle.picture_text.proofs.dot.LinksDisplay.fmt.Given as goal

abbrev pub invariant-loop-link : goal.invariant-loop-link
invariant-loop-link g l = IsPlainFormatter l.initial.f → HasWritten g.W.Write.write_str_gives l.initial.f (link_texts (take l.link-index l.link-items)) l.f
