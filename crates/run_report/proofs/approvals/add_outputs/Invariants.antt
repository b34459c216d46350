use Rattle.std.proofs.Common.{List, take}
use Rattle.run_report.specs.declared.answered.Answered.{Answered}
use Rattle.run_report.specs.Own.{answers_onto}
use Rattle.run_report.specs.Tally.{Counts}
use Rattle.run_report.proofs.approvals.add_outputs.Given as goal

abbrev pub invariant-loop-output : goal.invariant-loop-output
invariant-loop-output l = (before : List Answered) → Counts l.initial.tally before → Counts l.tally (answers_onto l.alone (take l.output-index l.outputs) before)
