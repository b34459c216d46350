use Rattle.std.proofs.Common.{arith, ◌≡◌, Some, slice_get, subst, ap, sym, ◌∙◌}
use Rattle.std.specs.Prelude.{MatchBool}
use Rattle.std.proofs.lemmas.Option.{slice_get_past}
use Rattle.net_threads.specs.Station.{StationView}
use Rattle.network_law.specs.Runs.{WasPut}
use Rattle.net_threads.specs.Verdicts.{trace_of}
use Rattle.net_threads.proofs.Sofar.{is_read}
use Rattle.net_threads.proofs.Standing.{put_there, none_put}
use Rattle.net_threads.proofs.judge.was_put.Goals as goal

pub returns : goal.returns
returns c =
    let ss = c.args.judged.now.stations.now in
    let at : slice_get ss c.place-other.result ≡ Some c.index-judged-other.result = is_read ss c.place-other.result c.index-judged-other.result (omega arith) c.index-judged-other.is in
    subst (λ m. MatchBool c.has_put.result (WasPut (trace_of ss m) c.args.link c.args.serial c.args.bytes.now) (¬ WasPut (trace_of ss m) c.args.link c.args.serial c.args.bytes.now)) (c.place-other.ensures.place ∙ c.other_end.ensures)
    (put_there ss c.place-other.result c.args.link c.args.serial c.args.bytes.now c.index-judged-other.result c.trace.result.now c.has_put.result at (c.trace.ensures.trace ∙ ap (λ (v : StationView). v.trace) (sym c.index-judged-other.is)) c.has_put.ensures)

pub returns-then-other-judged : goal.returns-then-other-judged
returns-then-other-judged c =
    let ss = c.args.judged.now.stations.now in
    subst (λ m. ¬ WasPut (trace_of ss m) c.args.link c.args.serial c.args.bytes.now) (c.place-other.ensures.place ∙ c.other_end.ensures)
    (none_put ss c.place-other.result c.args.link c.args.serial c.args.bytes.now (slice_get_past ss c.place-other.result (omega arith)))
