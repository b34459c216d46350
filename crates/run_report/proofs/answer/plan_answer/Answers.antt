use Rattle.std.proofs.Common.{◌≡◌}
use Rattle.std.proofs.lemmas.Result.{IfOk-weaker}
use Rattle.run_report.specs.Printed.{said_of, IsOfPlan}
use Rattle.run_report.proofs.answer.plan_answer.Goals as goal

pub returns : goal.returns
returns g c =
    let run = c.run_plan_text.result in
    IfOk-weaker c.said_of.result (λ a. a ≡ said_of run) (IsOfPlan c.args.plan.now c.args.accepted.now) (λ a e. (run, c.run_plan_text.ensures, e)) c.said_of.ensures
