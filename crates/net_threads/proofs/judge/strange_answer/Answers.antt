use Rattle.std.proofs.Common.{arith, ℕ, All}
use Rattle.net_threads.specs.declared.ended.SessionEnd.{SessionEnd}
use Rattle.net_threads.specs.Verdicts.{IsGiven}
use Rattle.net_threads.proofs.Sofar.{each_step, each_end, is_read}
use Rattle.net_threads.proofs.judge.strange_answer.Goals as goal

pub returns-in-Some : goal.returns-in-Some
returns-in-Some c =
    let w = c.in-Some.ensures in
    record {
      end = c.session-item.result;
      is_end = is_read c.args.ended.now.sessions.items c.loop-i.i c.session-item.result (omega arith) (cc);
      line_end = w.0;
      is_line = w.1;
      not_given = w.2;
    }

pub loop-i-preserved : goal.loop-i-preserved
loop-i-preserved c =
    let Q : ℕ → SessionEnd → Type 0 = λ k s. All (IsGiven c.args.stations.now s.node) s.lines.items in
    each_step Q c.args.ended.now.sessions.items c.loop-i.i c.session-item.result (omega arith) (cc) c.in_default.ensures c.loop-i.invariant

pub returns : goal.returns
returns c =
    let Q : ℕ → SessionEnd → Type 0 = λ k s. All (IsGiven c.args.stations.now s.node) s.lines.items in
    each_end Q c.args.ended.now.sessions.items c.loop-i.i (omega arith) c.loop-i.invariant
