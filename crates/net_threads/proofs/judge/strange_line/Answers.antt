use Rattle.std.proofs.Common.{rules, arith}
use Rattle.net_threads.specs.Verdicts.{IsGiven}
use Rattle.net_threads.proofs.Sofar.{all_step, all_end}
use Rattle.net_threads.proofs.judge.strange_line.Goals as goal

pub loop-j-preserved : goal.loop-j-preserved
loop-j-preserved c =
    let here : IsGiven c.args.stations.now c.args.session.now.node c.end-item.result = search rules in
    all_step (IsGiven c.args.stations.now c.args.session.now.node) c.args.session.now.lines.items c.loop-j.j c.end-item.result (omega arith) (cc) here c.loop-j.invariant

pub returns : goal.returns
returns c = all_end (IsGiven c.args.stations.now c.args.session.now.node) c.args.session.now.lines.items c.loop-j.j (omega arith) c.loop-j.invariant
