use Rattle.std.proofs.Common.{◌≡◌, ◌∙◌, ap, true}
use Rattle.std.proofs.lemmas.Result.{IfOk-weaker}
use Rattle.clap.specs.Words.{App, app_of}
use Rattle.clap.specs.Simple.{app_of_fields}
use Rattle.view_command.specs.App.{plain}
use Rattle.view_command.proofs.app.bare.Goals as goal

-- the settings, one after the other
abbrev unnamed : App → App
unnamed a = record a { top = record a.top { no_binary_name = true } }

abbrev helpless : App → App
helpless a = record a { top = record a.top { disable_help_subcommand = true } }

abbrev wanting : App → App
wanting a = record a { top = record a.top { subcommand_required = true } }

pub returns : goal.returns
returns c =
    let about_is : app_of c.about.result ≡ plain = ap app_of_fields c.about.ensures ∙ c.new.ensures.app in
    let unnamed_is = ap app_of_fields c.no_binary_name.ensures ∙ ap unnamed about_is in
    let helpless_is = ap app_of_fields c.disable_help_subcommand.ensures ∙ ap helpless unnamed_is in
    let wanting_is = ap app_of_fields c.subcommand_required.ensures ∙ ap wanting helpless_is in
    IfOk-weaker c.bin_name.result _ _ (λ r h. ap app_of_fields h.0 ∙ wanting_is) c.bin_name.ensures
