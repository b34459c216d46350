use Rattle.std.proofs.Common.{◌≡◌, map, take}
use Rattle.serde_json.specs.View.{view}
use Rattle.card_json.specs.CardJson.{acquirer_data}
use Rattle.card_json.proofs.ways.acquirer_values.Given as goal

-- the acquirers so far
abbrev pub invariant-loop-row : goal.invariant-loop-row
invariant-loop-row l = map view l.values.items ≡ map (acquirer_data l.tables l.card) (take l.row-index l.row-items)
