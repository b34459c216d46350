use Rattle.std.proofs.Common.{take, All}
use Rattle.net_threads.specs.Verdicts.{IsLinked}
use Rattle.net_threads.proofs.judge.strange_entry.Given as goal

abbrev pub invariant-loop-entry : goal.invariant-loop-entry
invariant-loop-entry l = All (λ e. IsLinked l.judged.tables.now l.judged.stations.now l.n e.input) (take l.entry-index l.entries)
