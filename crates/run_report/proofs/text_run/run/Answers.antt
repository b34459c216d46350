use Rattle.std.proofs.Common.{◌∙◌, ap, subst, length}
use Rattle.net_rows.specs.Network.{Network}
use Rattle.net_threads.specs.Verdicts.{Holds}
use Rattle.run_report.proofs.text_run.run.Goals as goal

pub returns-in-Ok-report : goal.returns-in-Ok-report
returns-in-Ok-report g c =
    let ended = c.in-Ok-operate.ended in
    let finished = c.in-Ok-finish.finished in
    record {
      ended = ended;
      finished = finished;
      fits = c.in-Ok-operate.ensures;
      whole = c.in-Ok-finish.ensures.whole ∙ ap (λ (t : Network). length t.nodes) c.in-Ok-new.ensures;
      legal = c.in-Ok-finish.ensures.legal;
      limits = c.in-Ok-finish.ensures.limits;
      verdict = subst (λ t. Holds t finished.stations.items ended finished.verdict) c.in-Ok-new.ensures c.in-Ok-finish.ensures.verdict;
      says = c.in-Ok-report.ensures;
    }
