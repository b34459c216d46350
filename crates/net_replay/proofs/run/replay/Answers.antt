use Rattle.std.proofs.Common.{[], subst}
use Rattle.std.proofs.lemmas.Result.{IfOk-weaker, IfErr-weaker}
use Rattle.card_digits.specs.Lines.{lines}
use Rattle.net_rows.specs.Network.{Network}
use Rattle.net_replay.specs.Replays.{Leads, Fails}
use Rattle.net_replay.specs.Traces.{AreTraces}
use Rattle.net_replay.proofs.Outcomes.{leads_outcome, fails_outcome}
use Rattle.net_replay.proofs.run.replay.Goals as goal

pub returns-clause-outcome : goal.returns-clause-outcome
returns-clause-outcome c =
    let t = c.args.accepted.now in
    let checked = c.tables-tables.ensures.checked in
    let same = c.tables-tables.ensures.tables in
    IfOk-weaker c.run_lines.result _ _
    (λ r w. (w.0, leads_outcome t checked (lines c.args.script.now) [] 1 w.0 (λ n less. tt) (subst (λ (z : Network). Leads z [] (lines c.args.script.now) w.0) same w.1), subst (λ (z : Network). AreTraces z w.0 r) same w.2))
    c.run_lines.ensures.steps

pub returns-clause-first_fault : goal.returns-clause-first_fault
returns-clause-first_fault c =
    let t = c.args.accepted.now in
    let checked = c.tables-tables.ensures.checked in
    let same = c.tables-tables.ensures.tables in
    IfErr-weaker c.run_lines.result _ _
    (λ f w aside. fails_outcome t checked (lines c.args.script.now) [] 1 f (λ n less. tt) (subst (λ (z : Network). Fails z [] 1 (lines c.args.script.now) f) same (w aside)))
    c.run_lines.ensures.fault
