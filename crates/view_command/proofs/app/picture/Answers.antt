use Rattle.std.proofs.Common.{rules, ◌≡◌, ◌∙◌, ap, ap₂, false}
use Rattle.std.proofs.lemmas.Result.{IfOk-weaker}
use Rattle.clap.specs.Words.{rule_of, with_rule}
use Rattle.clap.specs.Simple.{app_of_fields}
use Rattle.view_command.specs.App.{prefix_rule, dot_rule}
use Rattle.view_command.proofs.app.picture.Goals as goal

pub returns : goal.returns
returns c =
    let first : rule_of c.help-prefix.result ≡ prefix_rule = search rules in
    let second : rule_of c.help-dot.result ≡ dot_rule = search rules in
    let first_local : c.help-prefix.result.global ≡ false = search rules in
    let second_local : c.help-dot.result.global ≡ false = search rules in
    let one = c.in_ok-picture.ensures.shape first_local ∙ ap₂ with_rule (ap app_of_fields c.about-picture.ensures ∙ c.new-3.ensures.app) first in
    IfOk-weaker c.arg-2.result _ _ (λ r h. h.shape second_local ∙ ap₂ with_rule one second) c.arg-2.ensures
