use Rattle.std.proofs.Common.{◌∙◌, ap, ap₂, refl}
use Rattle.std.proofs.lemmas.Result.{IfOk-weaker}
use Rattle.clap.specs.Words.{App, with_subcommand}
use Rattle.view_command.specs.App.{card, picture, refusals, trace}
use Rattle.view_command.proofs.Lines.{plain_local}
use Rattle.view_command.proofs.app.program.Goals as goal

pub returns : goal.returns
returns c =
    let two = c.in_ok-program-2.ensures ∙ ap (λ (a : App). with_subcommand a card.top) c.in_ok-program.ensures in
    let three = c.in_ok-program-3.ensures ∙ ap (λ (a : App). with_subcommand a refusals.top) two in
    let four = c.in_ok-program-4.ensures ∙ ap (λ (a : App). with_subcommand a picture.top) three in
    IfOk-weaker c.subcommand.result _ _ (λ r h. h.shape (plain_local c.trace.result trace c.trace.ensures refl) ∙ ap₂ with_subcommand four (ap (λ (a : App). a.top) c.trace.ensures)) c.subcommand.ensures
