use Rattle.std.proofs.Common.{arith}
use Rattle.network_law.specs.Entries.{Entry}
use Rattle.net_threads.specs.Verdicts.{IsLinked}
use Rattle.net_threads.proofs.Sofar.{all_step, all_end, is_read, in_at}
use Rattle.net_threads.proofs.judge.strange_entry.Goals as goal

pub loop-entry-preserved : goal.loop-entry-preserved
loop-entry-preserved c = all_step (λ (e : Entry). IsLinked c.args.judged.now.tables.now c.args.judged.now.stations.now c.args.n e.input) c.args.entries.now c.loop-entry.entry-index c.entry-item.result (omega arith) c.entry-item.is (rw (← c.input.ensures) c.in_default.ensures) c.loop-entry.invariant

pub returns-in-Some : goal.returns-in-Some
returns-in-Some c = (c.entry-item.result, in_at c.args.entries.now c.loop-entry.entry-index c.entry-item.result (is_read c.args.entries.now c.loop-entry.entry-index c.entry-item.result (omega arith) c.entry-item.is), rw (← c.input.ensures) c.in-Some.ensures)

pub returns : goal.returns
returns c = all_end (λ (e : Entry). IsLinked c.args.judged.now.tables.now c.args.judged.now.stations.now c.args.n e.input) c.args.entries.now c.loop-entry.entry-index (omega arith) c.loop-entry.invariant
