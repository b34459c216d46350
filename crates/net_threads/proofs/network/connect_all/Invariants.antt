use Rattle.std.proofs.Common.{◌≡◌, vec_len}
use Rattle.net_threads.proofs.network.connect_all.Given as goal

abbrev pub invariant-loop-k : goal.invariant-loop-k
invariant-loop-k l = vec_len l.stations ≡ vec_len l.fn.stations
