use Rattle.std.proofs.Common.{ap, ◌∙◌}
use Rattle.std.proofs.lemmas.Result.{IfOk-weaker}
use Rattle.serde_json.specs.Written.{has_float}
use Rattle.refusals_json.specs.Json.{json_line}
use Rattle.refusals_json.proofs.JsonLines.{accepted_plain}
use Rattle.refusals_json.proofs.listed_json.accepted_line.Goals as goal

pub json_line-requires : goal.json_line-requires
json_line-requires c = ap has_float c.in_ok-value.ensures ∙ accepted_plain

pub returns : goal.returns
returns c = IfOk-weaker c.json_line.result _ _ (λ line h. h ∙ ap json_line c.in_ok-value.ensures) c.json_line.ensures
