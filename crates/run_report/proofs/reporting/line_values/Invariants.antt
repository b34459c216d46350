use Rattle.std.proofs.Common.{◌≡◌, map, take}
use Rattle.serde_json.specs.View.{view}
use Rattle.run_report.specs.Answers.{end_data}
use Rattle.run_report.proofs.reporting.line_values.Given as goal

abbrev pub invariant-loop-end : goal.invariant-loop-end
invariant-loop-end l = map view l.values.items ≡ map end_data (take l.end-index l.lines)
