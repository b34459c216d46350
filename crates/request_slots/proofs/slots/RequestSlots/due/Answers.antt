use Rattle.std.proofs.Common.{◌≡◌, rules}
use Rattle.std.specs.Prelude.{filter_map}
use Rattle.tick_wheel.specs.Wheel.{due_after}
use Rattle.request_slots.specs.Kept.{place_in}
use Rattle.request_slots.proofs.Exact.{due_exact}
use Rattle.request_slots.proofs.slots.RequestSlots.due.Goals as goal

pub returns : goal.returns
returns c =
    let i = c.self.inside in
    let k = c.self.invariant.0 in
    let places : c.in_ok-places.places.items ≡ filter_map (place_in i.wheel.slots) (due_after i.wheel 0) = search rules in
    rw (← c.self.view_is) (record { exact = due_exact i.wheel.slots i.slots.items k.slots_held i.count (due_after i.wheel) c.in_order.result.items k.buckets (rw (← places) c.in_order.ensures.same) c.in_order.ensures.sorted })
