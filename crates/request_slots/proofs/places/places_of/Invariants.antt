use Rattle.std.proofs.Common.{◌≡◌, take}
use Rattle.std.specs.Prelude.{filter_map}
use Rattle.request_slots.specs.Kept.{place_in}
use Rattle.request_slots.proofs.places.places_of.Given as goal

abbrev pub invariant-loop-slot : goal.invariant-loop-slot
invariant-loop-slot l = l.places.items ≡ filter_map (place_in l.wheel.slots) (take l.slot-index l.slots)
