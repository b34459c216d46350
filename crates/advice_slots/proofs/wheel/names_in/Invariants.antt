use Rattle.std.proofs.Common.{◌≡◌, filter, map, take}
use Rattle.advice_slots.specs.Items.{is_due, name_of}
use Rattle.advice_slots.specs.Kept.{items_in}
use Rattle.advice_slots.proofs.wheel.names_in.Given as goal

abbrev pub invariant-loop-slot : goal.invariant-loop-slot
invariant-loop-slot l = l.names.items ≡ map name_of (filter (is_due l.ticks l.now) (items_in l.wheel.slots (take l.slot-index l.slots)))
