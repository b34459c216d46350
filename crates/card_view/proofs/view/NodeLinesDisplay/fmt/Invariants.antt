use Rattle.std.specs.Fmt.{HasWritten, IsPlainFormatter}
use Rattle.card_view.specs.View.{node_lines}
use Rattle.card_view.proofs.view.NodeLinesDisplay.fmt.Given as goal

abbrev pub invariant-loop-place : goal.invariant-loop-place
invariant-loop-place g l = IsPlainFormatter l.initial.f → HasWritten g.W.Write.write_str_gives l.initial.f (node_lines l.view.tables.now l.view.cert.now l.view.card.now l.self.class.now l.place) l.f
