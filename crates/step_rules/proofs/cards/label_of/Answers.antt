use Rattle.std.proofs.Common.{sym, ◌∙◌, ap}
use Rattle.std.specs.Result.{result_ok}
use Rattle.step_rules.proofs.CardsRead.{no_label, some_label}
use Rattle.step_rules.proofs.cards.label_of.Goals as goal

pub returns-in_err-label : goal.returns-in_err-label
returns-in_err-label c = c.from_residual.ensures ∙ no_label c.args.message.now (sym c.in_err-label.ensures)

pub returns : goal.returns
returns c = c.ok.ensures.value ∙ ap result_ok c.read.ensures.value ∙ some_label c.args.message.now c.in_ok-label.label.now c.kind.ensures.is_message (sym c.in_ok-label.ensures)
