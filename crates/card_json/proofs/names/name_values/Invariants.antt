use Rattle.std.proofs.Common.{◌≡◌, map, take}
use Rattle.bundle_text.specs.Lines.{node_name}
use Rattle.serde_json.specs.View.{view}
use Rattle.refusals_json.specs.Json.{text}
use Rattle.card_json.proofs.names.name_values.Given as goal

-- the names so far
abbrev pub invariant-loop-node : goal.invariant-loop-node
invariant-loop-node l = map view l.values.items ≡ map (λ n. text (node_name l.tables n)) (take l.node-index l.nodes)
