use Rattle.std.proofs.Common.{take}
use Rattle.std.specs.Fmt.{HasWritten, IsPlainFormatter}
use Rattle.card_view.specs.View.{fallbacks_text}
use Rattle.card_view.proofs.hops.FallbacksDisplay.fmt.Given as goal

abbrev pub invariant-loop-link : goal.invariant-loop-link
invariant-loop-link g l = IsPlainFormatter l.initial.f → HasWritten g.W.Write.write_str_gives l.initial.f (fallbacks_text l.tables l.node (take l.link-index l.link-items)) l.f
