use Rattle.std.proofs.Common.{take}
use Rattle.std.specs.Fmt.{HasWritten, IsPlainFormatter}
use Rattle.card_view.specs.View.{acquirer_lines}
use Rattle.card_view.proofs.ways.AcquirerLinesDisplay.fmt.Given as goal

abbrev pub invariant-loop-row : goal.invariant-loop-row
invariant-loop-row g l = IsPlainFormatter l.initial.f → HasWritten g.W.Write.write_str_gives l.initial.f (acquirer_lines l.tables l.card (take l.row-index l.row-items)) l.f
