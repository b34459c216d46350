use Rattle.std.proofs.Common.{◌≡◌, vec_len}
use Rattle.net_threads.proofs.network.stations_of.Given as goal

abbrev pub invariant-loop-n : goal.invariant-loop-n
invariant-loop-n l = vec_len l.stations ≡ l.n
