use Rattle.std.proofs.Common.{rules, ◌≡◌, ◌∙◌, ap, ap₂, false}
use Rattle.std.proofs.lemmas.Result.{IfOk-weaker}
use Rattle.clap.specs.Words.{rule_of, with_rule}
use Rattle.clap.specs.Simple.{app_of_fields}
use Rattle.view_command.specs.App.{number_rule, json_rule}
use Rattle.view_command.proofs.app.card.Goals as goal

pub returns : goal.returns
returns c =
    let first : rule_of c.help-number.result ≡ number_rule = search rules in
    let second : rule_of c.help-json.result ≡ json_rule = search rules in
    let first_local : c.help-number.result.global ≡ false = search rules in
    let second_local : c.help-json.result.global ≡ false = search rules in
    let one = c.in_ok-card.ensures.shape first_local ∙ ap₂ with_rule (ap app_of_fields c.about-card.ensures ∙ c.new-3.ensures.app) first in
    IfOk-weaker c.arg-2.result _ _ (λ r h. h.shape second_local ∙ ap₂ with_rule one second) c.arg-2.ensures
