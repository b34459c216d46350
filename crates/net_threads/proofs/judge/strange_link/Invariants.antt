use Rattle.std.proofs.Common.{◌≡◌, ◌<◌, ℕ, slice_get, Some}
use Rattle.network_law.specs.Traces.{IsIn}
use Rattle.network_law.specs.Entries.{Entry}
use Rattle.net_threads.specs.Station.{StationView}
use Rattle.net_threads.specs.Verdicts.{IsLinked}
use Rattle.net_threads.proofs.judge.strange_link.Given as goal

abbrev pub invariant-loop-n : goal.invariant-loop-n
invariant-loop-n l = (k : ℕ) (v : StationView) → k < l.n → slice_get l.judged.stations.now k ≡ Some v → (e : Entry) → IsIn e v.trace → IsLinked l.judged.tables.now l.judged.stations.now k e.input
