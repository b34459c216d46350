use Rattle.std.proofs.Common.{◌∙◌, ap, refl}
use Rattle.std.proofs.lemmas.Result.{IfOk-weaker}
use Rattle.clap.specs.Words.{App, app_of, with_subcommand}
use Rattle.view_command.specs.App.{card}
use Rattle.view_command.proofs.Lines.{plain_local}
use Rattle.view_command.proofs.app.with_card.Goals as goal

pub returns : goal.returns
returns c =
    let is = c.in_ok-card.ensures in
    IfOk-weaker c.subcommand.result _ _ (λ r h. h.shape (plain_local c.in_ok-card.card card is refl) ∙ ap (λ (a : App). with_subcommand (app_of c.args.program) a.top) is) c.subcommand.ensures
