use Rattle.std.proofs.Common.{ap, ◌∙◌}
use Rattle.std.proofs.lemmas.Result.{IfOk-weaker}
use Rattle.serde_json.specs.Written.{has_float, compact_text}
use Rattle.run_report.specs.Reports.{report_data}
use Rattle.run_report.proofs.Values.{report_has_no_float}
use Rattle.run_report.proofs.reporting.report.Goals as goal

pub returns : goal.returns
returns c =
    let is = c.in_ok-value.ensures ∙ ap (λ t. report_data t c.args.ended.now c.args.finished.now) c.tables.ensures.tables in
    IfOk-weaker c.to_string.result _ _ (λ s h. h (ap has_float is ∙ report_has_no_float c.args.accepted.now c.args.ended.now c.args.finished.now) ∙ ap compact_text is) c.to_string.ensures.text
