use Rattle.std.proofs.Common.{◌≡◌, rules}
use Rattle.std.specs.Prelude.{filter_map}
use Rattle.chain_links.specs.Lists.{list_at}
use Rattle.request_slots.specs.Kept.{place_in}
use Rattle.request_slots.proofs.Exact.{link_exact}
use Rattle.request_slots.proofs.slots.RequestSlots.on_link.Goals as goal

pub returns : goal.returns
returns c =
    let i = c.self.inside in
    let k = c.self.invariant.0 in
    let places : c.in_ok-places.places.items ≡ filter_map (place_in i.wheel.slots) (list_at i.wheel.link c.args.link) = search rules in
    rw (← c.self.view_is) (record { exact = link_exact i.wheel.slots i.slots.items k.slots_held c.args.link (list_at i.wheel.link) c.in_order.result.items k.links (rw (← places) c.in_order.ensures.same) c.in_order.ensures.sorted })
