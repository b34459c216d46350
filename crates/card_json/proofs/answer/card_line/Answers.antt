use Rattle.std.proofs.Common.{◌≡◌, ap, ◌∙◌}
use Rattle.std.proofs.lemmas.Result.{IfOk-weaker}
use Rattle.std.specs.Option.{option_copied}
use Rattle.serde_json.specs.View.{view}
use Rattle.serde_json.specs.Written.{has_float}
use Rattle.refusals_json.specs.Json.{json_line}
use Rattle.card_json.specs.CardJson.{card_data}
use Rattle.card_json.proofs.Plain.{card_plain}
use Rattle.card_json.proofs.Values.{line_of}
use Rattle.card_json.proofs.answer.card_line.Goals as goal

pub json_line-requires : goal.json_line-requires
json_line-requires c = ap has_float c.in_ok-value.ensures ∙ card_plain c.args.asked.now.tables.now c.args.asked.now.cert.now c.args.asked.now.card.now (option_copied c.args.refusal)

pub returns : goal.returns
returns c =
    let object = card_data c.args.asked.now.tables.now c.args.asked.now.cert.now c.args.asked.now.card.now (option_copied c.args.refusal) in
    IfOk-weaker c.json_line.result (λ line. line.items ≡ json_line (view c.in_ok-value.value)) (λ line. line.items ≡ json_line object) (λ line h. line_of (view c.in_ok-value.value) object line.items h c.in_ok-value.ensures) c.json_line.ensures
