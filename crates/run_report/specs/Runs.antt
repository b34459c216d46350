-- What running the text of a plan gives.
use Rattle.std.specs.Prelude.{◌≡◌, ℕ, List, length, vec_len, All, Result, Ok, Err, MatchResult, String, string_bytes, ⊤}
use Rattle.std.specs.List.{AllZip}
use Rattle.std.specs.declared.alloc.Global.{Global}
use Rattle.net_rows.specs.Network.{Network}
use Rattle.network_law.specs.Claims.{IsWithinLimits}
use Rattle.network_law.specs.Entries.{history}
use Rattle.network_law.specs.Runs.{IsLegal}
use Rattle.net_threads.specs.Verdicts.{Holds}
use Rattle.net_threads.specs.declared.ended.Ended.{Ended}
use Rattle.net_threads.specs.declared.ended.Finished.{Finished}
use Rattle.net_operate.specs.Sessions.{SessionFits}
use Rattle.run_plan.specs.Plans.{Reads}
use Rattle.run_plan.specs.declared.plan.Plan.{Plan}
use Rattle.run_plan.specs.declared.plan.Session.{Session}
use Rattle.run_report.specs.declared.text_run.RunFault.{RunFault}
use Rattle.run_report.specs.declared.text_run.RunFault.TheVariants as faults
use Rattle.serde_json.specs.Written.{compact_text}
use Rattle.run_report.specs.Reports.{report_data}

-- the text reports what these sessions ended with and what the traces at the end show: each is legal and within its node's limits, and
-- the verdict on them holds
pub record IsReport (t : Network) (sessions : List Session) (text : List ℕ) : Type 0 where
  pub ended : Ended
  pub finished : Finished
  pub fits : AllZip SessionFits sessions ended.sessions.items
  pub whole : vec_len finished.stations ≡ length t.nodes
  pub legal : All (λ s. IsLegal s.t s.n s.trace) finished.stations.items
  pub limits : All (λ s. IsWithinLimits s.t s.n (history s.trace)) finished.stations.items
  pub verdict : Holds t finished.stations.items ended finished.verdict
  pub says : text ≡ compact_text (report_data t ended finished)

-- a thread could not be started, or memory was wanting
abbrev pub IsOfRun : RunFault → Type 0
IsOfRun (faults.Plan fault) = ⊥
IsOfRun faults.Threads = ⊤
IsOfRun faults.Memory = ⊤

-- what a plan with these sessions gives
abbrev pub RunsPlan : Network → List Session → Result (String Global) RunFault → Type 0
RunsPlan t sessions r = MatchResult r (λ s. IsReport t sessions (string_bytes s)) IsOfRun

-- the text was read as a plan
abbrev pub IsPlanText : Network → List (List ℕ) → Type 0
IsPlanText t lines = (p : Plan) × Reads t lines (Ok p)

-- the fault of the plan, or of the run of one
abbrev pub IsFault : Network → List (List ℕ) → RunFault → Type 0
IsFault t lines (faults.Plan fault) = Reads t lines (Err fault)
IsFault t lines faults.Threads = IsPlanText t lines
IsFault t lines faults.Memory = IsPlanText t lines

-- the report of a run of the plan that the lines say, or why there is none
abbrev pub RunsText : Network → List (List ℕ) → Result (String Global) RunFault → Type 0
RunsText t lines r = MatchResult r (λ s. (p : Plan) × Reads t lines (Ok p) × IsReport t p.sessions.items (string_bytes s)) (IsFault t lines)
