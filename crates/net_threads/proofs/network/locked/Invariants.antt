use Rattle.std.proofs.Common.{◌≡◌, ◌+◌, vec_len}
use Rattle.std.specs.Vec.Iter.{into_iter_len}
use Rattle.net_threads.proofs.network.locked.Given as goal

abbrev pub invariant-loop-station : goal.invariant-loop-station
invariant-loop-station l = vec_len l.locks + into_iter_len l.station-iterator ≡ vec_len l.fn.stations
