use Rattle.std.proofs.Common.{◌∙◌, ap, subst}
use Rattle.net_threads.specs.Station.{NetworkView}
use Rattle.net_threads.specs.Verdicts.{trace_of, Holds}
use Rattle.net_threads.proofs.Standing.{linked_run}
use Rattle.net_threads.proofs.network.Network.finish.Goals as goal

pub returns-clause-verdict : goal.returns-clause-verdict
returns-clause-verdict c =
    let ss = c.in_ok-stations.stations.items in
    let v = c.in_ok-verdict.verdict in
    let h : Holds c.tables-tables.result.now ss c.args.ended.now v = rw (← c.as_slice.ensures.value) c.in_ok-verdict.ensures in
    let same = c.tables-tables.ensures.tables ∙ ap (λ (w : NetworkView). w.t) c.self.view_is in
    subst (λ t. Holds t ss c.args.ended.now v) same h

pub returns-clause-safe : goal.returns-clause-safe
returns-clause-safe c is =
    let t = c.tables-tables.result.now in
    let ss = c.in_ok-stations.stations.items in
    let h : Holds t ss c.args.ended.now c.in_ok-verdict.verdict = rw (← c.as_slice.ensures.value) c.in_ok-verdict.ensures in
    let same = c.tables-tables.ensures.tables in
    rw (← c.self.view_is) (c.tables-tables.ensures.safe (trace_of ss) (rw (← same) (linked_run t ss c.args.ended.now c.in_ok-verdict.verdict h is)))

pub returns-clause-covered : goal.returns-clause-covered
returns-clause-covered c is =
    let t = c.tables-tables.result.now in
    let ss = c.in_ok-stations.stations.items in
    let h : Holds t ss c.args.ended.now c.in_ok-verdict.verdict = rw (← c.as_slice.ensures.value) c.in_ok-verdict.ensures in
    let same = c.tables-tables.ensures.tables in
    rw (← c.self.view_is) (c.tables-tables.ensures.covered (trace_of ss) (rw (← same) (linked_run t ss c.args.ended.now c.in_ok-verdict.verdict h is)))
