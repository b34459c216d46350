use Rattle.std.proofs.Common.{◌≡◌, map}
use Rattle.serde_json.specs.View.{view}
use Rattle.card_json.specs.CardJson.{nodes_data}
use Rattle.card_json.proofs.node.node_values.Given as goal

-- the nodes so far
abbrev pub invariant-loop-place : goal.invariant-loop-place
invariant-loop-place l = map view l.values.items ≡ nodes_data l.asked.tables.now l.asked.cert.now l.asked.card.now l.class l.place
