use Rattle.std.proofs.Common.{rules, ◌≡◌, ◌∙◌, ap, ap₂, false}
use Rattle.std.proofs.lemmas.Result.{IfOk-weaker}
use Rattle.clap.specs.Words.{rule_of, with_rule}
use Rattle.clap.specs.Simple.{app_of_fields}
use Rattle.view_command.specs.App.{json_rule}
use Rattle.view_command.proofs.app.refusals.Goals as goal

pub returns : goal.returns
returns c =
    let rule : rule_of c.help-json.result ≡ json_rule = search rules in
    let local : c.help-json.result.global ≡ false = search rules in
    IfOk-weaker c.arg.result _ _ (λ r h. h.shape local ∙ ap₂ with_rule (ap app_of_fields c.about-refusals.ensures ∙ c.new-2.ensures.app) rule) c.arg.ensures
