use Rattle.std.proofs.Common.{◌≡◌, ◌<◌, ℕ, slice_get, Some}
use Rattle.net_threads.specs.Station.{StationView}
use Rattle.net_threads.specs.Verdicts.{IsOf}
use Rattle.net_threads.proofs.judge.strange_station.Given as goal

abbrev pub invariant-loop-n : goal.invariant-loop-n
invariant-loop-n l = (k : ℕ) (s : StationView) → k < l.n → slice_get l.stations k ≡ Some s → IsOf l.tables k s
