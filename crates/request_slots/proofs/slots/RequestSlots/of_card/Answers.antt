use Rattle.std.proofs.Common.{◌≡◌, rules}
use Rattle.std.specs.Prelude.{filter_map}
use Rattle.chain_links.specs.Lists.{list_at}
use Rattle.request_slots.specs.Kept.{ending, place_if}
use Rattle.request_slots.specs.Waits.{is_of}
use Rattle.request_slots.proofs.Exact.{card_exact}
use Rattle.request_slots.proofs.slots.RequestSlots.of_card.Goals as goal

pub returns : goal.returns
returns c =
    let i = c.self.inside in
    let k = c.self.invariant.0 in
    let card = c.args.card.now in
    let places : c.in_ok-places.places.items ≡ filter_map (place_if (is_of card) i.wheel.slots) (list_at i.wheel.card (ending card)) = search rules in
    rw (← c.self.view_is) (record { exact = card_exact i.wheel.slots i.slots.items k.slots_held card (list_at i.wheel.card) c.in_order.result.items k.cards (rw (← places) c.in_order.ensures.same) c.in_order.ensures.sorted })
