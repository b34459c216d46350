use Rattle.std.proofs.Common.{◌-◌, length, arith}
use Rattle.message_elements.specs.Values.{fits}
use Rattle.message_bytes.proofs.LaneLemmas.{further, whole_run}
use Rattle.message_bytes.proofs.runs.run_from.Goals as goal

pub returns-then-run-lt-LANES-clause-passes : goal.returns-then-run-lt-LANES-clause-passes
returns-then-run-lt-LANES-clause-passes c =
    further (fits c.args.class) c.args.bytes.now c.loop-done.done c.loop-done.done c.run_in-run.result 16 (omega arith) c.loop-done.invariant.passes c.run_in-run.ensures

pub loop-done-preserved : goal.loop-done-preserved
loop-done-preserved c = record {
  bound = omega arith;
  passes = whole_run (fits c.args.class) c.args.bytes.now c.loop-done.done c.run_in-run.result (omega arith) c.loop-done.invariant.passes c.run_in-run.ensures;
}

pub returns-clause-passes : goal.returns-clause-passes
returns-clause-passes c =
    further (fits c.args.class) c.args.bytes.now c.loop-done.done (length c.args.bytes.now - 16) c.run_in.result 16 (omega arith) c.loop-done.invariant.passes c.run_in.ensures
