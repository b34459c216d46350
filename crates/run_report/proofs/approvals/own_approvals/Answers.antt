use Rattle.std.proofs.Common.{◌∙◌, ap, subst}
use Rattle.std.proofs.lemmas.Result.{IfOk-weaker}
use Rattle.net_rows.specs.Sound.{IsSound}
use Rattle.run_report.specs.Counted.{counted}
use Rattle.run_report.proofs.OwnLaw.{own_is_lawful}
use Rattle.run_report.proofs.approvals.own_approvals.Goals as goal

pub returns : goal.returns
returns c =
    let s = c.args.station.now in
    let sound = subst IsSound c.tables.ensures c.nodes.ensures.sound in
    IfOk-weaker c.own_in_trace.result _ _ (λ n e. e ∙ ap counted (own_is_lawful s.t s.n s.trace sound c.trace.ensures.legal)) c.own_in_trace.ensures
