use Rattle.std.proofs.Common.{◌≡◌, ◌+◌, vec_len, All}
use Rattle.std.specs.Vec.Iter.{into_iter_len}
use Rattle.network_law.specs.Claims.{IsWithinLimits}
use Rattle.network_law.specs.Entries.{history}
use Rattle.network_law.specs.Runs.{IsLegal}
use Rattle.net_threads.specs.Station.{StationView}
use Rattle.net_threads.proofs.network.opened.Given as goal

abbrev pub invariant-loop-lock : goal.invariant-loop-lock
invariant-loop-lock l =
    (vec_len l.stations + into_iter_len l.lock-iterator ≡ vec_len l.fn.locks)
    × All (λ (s : StationView). IsLegal s.t s.n s.trace) l.stations.items
    × All (λ (s : StationView). IsWithinLimits s.t s.n (history s.trace)) l.stations.items
