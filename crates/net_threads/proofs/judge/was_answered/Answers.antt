use Rattle.std.proofs.Common.{arith, ◌≡◌, Some, slice_get, subst}
use Rattle.std.specs.Prelude.{MatchBool}
use Rattle.std.proofs.lemmas.Option.{slice_get_past}
use Rattle.net_threads.specs.Verdicts.{trace_of, WasAnswered}
use Rattle.net_threads.proofs.Sofar.{is_read}
use Rattle.net_threads.proofs.Standing.{answer_there, none_answered}
use Rattle.net_threads.proofs.judge.was_answered.Goals as goal

pub returns : goal.returns
returns c =
    let ss = c.args.stations.now in
    let b = c.args.bytes.now in
    let at : slice_get ss c.place-place.result ≡ Some c.index-stations-place.result = is_read ss c.place-place.result c.index-stations-place.result (omega arith) c.index-stations-place.is in
    subst (λ m. MatchBool c.has_answer_from.result (WasAnswered (trace_of ss m) b) (¬ WasAnswered (trace_of ss m) b)) c.place-place.ensures.place
    (answer_there ss c.place-place.result b c.index-stations-place.result c.trace.result.now c.has_answer_from.result at c.trace.ensures.trace c.has_answer_from.ensures)

pub returns-then-place-stations : goal.returns-then-place-stations
returns-then-place-stations c =
    let ss = c.args.stations.now in
    let b = c.args.bytes.now in
    subst (λ m. ¬ WasAnswered (trace_of ss m) b) c.place-place.ensures.place (none_answered ss c.place-place.result b (slice_get_past ss c.place-place.result (omega arith)))
