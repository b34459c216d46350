use Rattle.std.proofs.Common.{rules, ◌≡◌, ◌+◌, vec_len}
use Rattle.std.specs.Vec.Iter.{into_iter_len}
use Rattle.std.proofs.lemmas.List.Elements.{All-push}
use Rattle.network_law.specs.Claims.{IsWithinLimits}
use Rattle.network_law.specs.Entries.{history}
use Rattle.network_law.specs.Runs.{IsLegal}
use Rattle.net_threads.specs.Station.{StationView}
use Rattle.net_threads.proofs.network.opened.Goals as goal

pub loop-lock-preserved : goal.loop-lock-preserved
loop-lock-preserved c =
    let P : StationView → Type 0 = λ s. IsLegal s.t s.n s.trace in
    let Q : StationView → Type 0 = λ s. IsWithinLimits s.t s.n (history s.trace) in
    let before = c.loop-lock.invariant in
    let len : vec_len c.push.new.self + into_iter_len c.next.new.self ≡ vec_len c.args.locks = search rules in (
      len,
      rw c.in_ok-push.ensures.items (All-push P c.loop-lock.stations.items c.into_inner-station.result before.1 c.trace.ensures.legal),
      rw c.in_ok-push.ensures.items (All-push Q c.loop-lock.stations.items c.into_inner-station.result before.2 c.trace.ensures.limits),
    )
