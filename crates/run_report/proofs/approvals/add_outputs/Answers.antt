use Rattle.std.proofs.Common.{arith, take}
use Rattle.run_report.specs.Own.{answers_onto}
use Rattle.run_report.proofs.Given.{outputs_more}
use Rattle.run_report.proofs.approvals.add_outputs.Goals as goal

pub loop-output-preserved : goal.loop-output-preserved
loop-output-preserved c = λ before h.
    outputs_more c.add_output.new.tally c.args.alone c.args.outputs.now c.loop-output.output-index c.output-item.result before (omega arith) c.output-item.is
    (c.in_ok-add_output.ensures (answers_onto c.args.alone (take c.loop-output.output-index c.args.outputs.now) before) (c.loop-output.invariant before h))
