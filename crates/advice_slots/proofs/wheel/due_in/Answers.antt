use Rattle.advice_slots.specs.Items.{stored_of}
use Rattle.advice_slots.proofs.Due.{due_made}
use Rattle.advice_slots.proofs.wheel.due_in.Goals as goal

pub loop-slot-preserved : goal.loop-slot-preserved
loop-slot-preserved c = due_made stored_of c.args.ticks c.args.now c.args.wheel.now.slots c.args.slots.now c.loop-slot.slot-index c.slot-item.result c.loop-slot.items.items _ c.loop-slot-test.true c.slot-item.is c.in_ok-push_due.ensures c.loop-slot.invariant
