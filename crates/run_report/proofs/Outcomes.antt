-- What comes of a plan that was read and run.
use Rattle.std.proofs.Common.{ℕ, List, Result, Ok, String, Global}
use Rattle.std.proofs.lemmas.Result.{MatchResult-weaker}
use Rattle.net_rows.specs.Network.{Network}
use Rattle.run_plan.specs.Plans.{Reads}
use Rattle.run_plan.specs.declared.plan.Plan.{Plan}
use Rattle.run_report.specs.declared.text_run.RunFault.{RunFault}
use Rattle.run_report.specs.declared.text_run.RunFault.TheVariants as faults
use Rattle.run_report.specs.Runs.{IsOfRun, IsPlanText, IsFault, RunsPlan, RunsText}

fault_of_run : (t : Network) (lines : List (List ℕ)) (f : RunFault) → IsPlanText t lines → IsOfRun f → IsFault t lines f
fault_of_run t lines (faults.Plan fault) read none = absurd none
fault_of_run t lines faults.Threads read none = read
fault_of_run t lines faults.Memory read none = read

pub runs_text : (t : Network) (lines : List (List ℕ)) (p : Plan) (r : Result (String Global) RunFault) → Reads t lines (Ok p) → RunsPlan t p.sessions.items r → RunsText t lines r
runs_text t lines p r read runs = MatchResult-weaker r runs (λ s is. (p, read, is)) (λ f none. fault_of_run t lines f (p, read) none)
