use Rattle.std.proofs.Common.{◌≡◌, take}
use Rattle.std.specs.Prelude.{filter_map}
use Rattle.request_slots.specs.Kept.{place_if}
use Rattle.request_slots.specs.Waits.{is_of}
use Rattle.request_slots.proofs.places.places_of_card.Given as goal

abbrev pub invariant-loop-slot : goal.invariant-loop-slot
invariant-loop-slot l = l.places.items ≡ filter_map (place_if (is_of l.card) l.wheel.slots) (take l.slot-index l.slots)
