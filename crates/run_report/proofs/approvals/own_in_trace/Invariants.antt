use Rattle.std.proofs.Common.{reverse, take}
use Rattle.run_report.specs.Own.{answers_given}
use Rattle.run_report.specs.Tally.{Counts}
use Rattle.run_report.proofs.approvals.own_in_trace.Given as goal

abbrev pub invariant-loop-entry : goal.invariant-loop-entry
invariant-loop-entry l = Counts l.tally (answers_given (reverse (take l.entry-index l.trace)))
