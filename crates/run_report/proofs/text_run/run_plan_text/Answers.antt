use Rattle.card_digits.specs.Lines.{lines}
use Rattle.run_report.proofs.Outcomes.{runs_text}
use Rattle.run_report.proofs.text_run.run_plan_text.Goals as goal

pub returns-in-Ok : goal.returns-in-Ok
returns-in-Ok g c =
    let said = lines c.args.text.now in
    runs_text c.args.accepted.now said c.in-Ok.plan c.run.result c.in-Ok.ensures c.run.ensures
