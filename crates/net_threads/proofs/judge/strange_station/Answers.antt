use Rattle.std.proofs.Common.{rules, arith, subst}
use Rattle.net_threads.specs.Verdicts.{IsOf}
use Rattle.net_threads.proofs.Sofar.{each_step, each_end}
use Rattle.net_threads.proofs.judge.strange_station.Goals as goal

pub loop-n-preserved : goal.loop-n-preserved
loop-n-preserved c =
    let t = c.args.tables.now in
    let ss = c.args.stations.now in
    let n = c.loop-n.n in
    let is : IsOf t c.new-place.result c.index-stations-n.result = search rules in
    each_step (λ k s. IsOf t k s) ss n c.index-stations-n.result (omega arith) c.index-stations-n.is (subst (λ k. IsOf t k c.index-stations-n.result) c.new-place.ensures is) c.loop-n.invariant

pub returns : goal.returns
returns c = each_end (λ k s. IsOf c.args.tables.now k s) c.args.stations.now c.loop-n.n (omega arith) c.loop-n.invariant
