use Rattle.std.proofs.Common.{arith, ℕ, All, subst}
use Rattle.network_law.specs.Traces.{IsIn}
use Rattle.network_law.specs.Entries.{Entry}
use Rattle.net_threads.specs.Station.{StationView}
use Rattle.net_threads.specs.Verdicts.{IsLinked, IsStrange}
use Rattle.net_threads.proofs.Sofar.{each_step, each_end, is_read}
use Rattle.net_threads.proofs.Standing.{all_linked, entry_there}
use Rattle.net_threads.proofs.judge.strange_link.Goals as goal

pub loop-n-preserved : goal.loop-n-preserved
loop-n-preserved c =
    let t = c.args.judged.now.tables.now in
    let ss = c.args.judged.now.stations.now in
    let n = c.loop-n.n in
    let Q : ℕ → StationView → Type 0 = λ k v. (e : Entry) → IsIn e v.trace → IsLinked t ss k e.input in
    let all : All (λ (e : Entry). IsLinked t ss n e.input) c.trace.result.now = subst (λ k. All (λ (e : Entry). IsLinked t ss k e.input) c.trace.result.now) c.new.ensures c.in_default.ensures in
    each_step Q ss n c.station-item.result (omega arith) c.station-item.is (all_linked t ss n c.station-item.result c.trace.result.now c.trace.ensures.trace all) c.loop-n.invariant

pub returns-in-Some : goal.returns-in-Some
returns-in-Some c =
    let t = c.args.judged.now.tables.now in
    let ss = c.args.judged.now.stations.now in
    let n = c.loop-n.n in
    let w = c.in-Some.ensures in
    record {
      n = n;
      station = c.station-item.result;
      there = is_read ss n c.station-item.result (omega arith) c.station-item.is;
      entry = w.0;
      is_entry = entry_there c.station-item.result c.trace.result.now w.0 c.trace.ensures.trace w.1;
      strange = subst (λ k. IsStrange t ss k c.in-Some.packet.0 c.in-Some.packet.1 (w.0).input) c.new.ensures w.2;
    }

pub returns : goal.returns
returns c =
    let t = c.args.judged.now.tables.now in
    let ss = c.args.judged.now.stations.now in
    let Q : ℕ → StationView → Type 0 = λ k v. (e : Entry) → IsIn e v.trace → IsLinked t ss k e.input in
    each_end Q ss c.loop-n.n (omega arith) c.loop-n.invariant
