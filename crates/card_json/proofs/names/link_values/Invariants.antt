use Rattle.std.proofs.Common.{◌≡◌, map, take}
use Rattle.serde_json.specs.View.{view}
use Rattle.card_json.specs.CardJson.{link_data}
use Rattle.card_json.proofs.names.link_values.Given as goal

-- the links so far
abbrev pub invariant-loop-link : goal.invariant-loop-link
invariant-loop-link l = map view l.values.items ≡ map (link_data l.tables l.node) (take l.link-index l.links)
