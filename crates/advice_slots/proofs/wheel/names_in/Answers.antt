use Rattle.advice_slots.specs.Items.{name_of}
use Rattle.advice_slots.proofs.Due.{due_made}
use Rattle.advice_slots.proofs.wheel.names_in.Goals as goal

pub loop-slot-preserved : goal.loop-slot-preserved
loop-slot-preserved c = due_made name_of c.args.ticks c.args.now c.args.wheel.now.slots c.args.slots.now c.loop-slot.slot-index c.slot-item.result c.loop-slot.names.items _ c.loop-slot-test.true c.slot-item.is c.in_ok-push_name.ensures c.loop-slot.invariant
