use Rattle.std.proofs.Common.{◌≡◌, ◌<◌, ◌+◌, ◌^◌, None, length}
use Rattle.card_digits.specs.Lines.{lines}
use Rattle.trace_view.specs.Inputs.{lines_now}
use Rattle.trace_view.specs.Table.{rows_onto}
use Rattle.trace_view.proofs.table.add_rows.Given as goal

-- what is left gives what the whole trace gives
abbrev pub invariant-loop-line : goal.invariant-loop-line
invariant-loop-line l = record {
  gives : rows_onto l.tables (lines_now l.script) l.text.items l.number l.above (lines l.rest) ≡ rows_onto l.tables (lines_now l.script) l.fn.text.items 1 None (lines l.trace);
  few : l.number + length l.rest < 2 ^ 64;
}

abbrev pub decreases-loop-line : goal.decreases-loop-line
decreases-loop-line l = length l.rest
