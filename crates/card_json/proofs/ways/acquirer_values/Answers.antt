use Rattle.std.proofs.Common.{rules, ◌≡◌, [], ◌∷◌, ◌++◌}
use Rattle.serde_json.specs.View.{view}
use Rattle.card_json.specs.CardJson.{acquirer_data}
use Rattle.card_json.proofs.Values.{values_more}
use Rattle.card_json.proofs.ways.acquirer_values.Goals as goal

pub loop-row-preserved : goal.loop-row-preserved
loop-row-preserved c =
    let t = c.args.tables.now in
    let card = c.args.card.now in
    let items : c.push.new.self.items ≡ c.loop-row.values.items ++ c.in_ok-value.value ∷ [] = search rules in
    values_more (acquirer_data t card) c.acquirers-row-items.result.now c.loop-row.row-index c.row-item.result c.loop-row.values.items c.push.new.self.items c.in_ok-value.value c.loop-row-test.true c.row-item.is c.loop-row.invariant items c.in_ok-value.ensures
