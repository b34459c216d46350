use Rattle.std.proofs.Common.{◌≡◌, map, take}
use Rattle.serde_json.specs.View.{view}
use Rattle.run_report.specs.Answers.{session_data}
use Rattle.run_report.proofs.reporting.session_values.Given as goal

abbrev pub invariant-loop-session : goal.invariant-loop-session
invariant-loop-session l = map view l.values.items ≡ map session_data (take l.session-index l.sessions)
