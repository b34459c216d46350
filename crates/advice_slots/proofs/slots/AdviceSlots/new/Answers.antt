use Rattle.advice_slots.proofs.Changed.{none_held}
use Rattle.advice_slots.proofs.slots.AdviceSlots.new.Goals as goal

pub invariant_of-result : goal.invariant_of-result
invariant_of-result c = none_held c.in_ok-held.held c.new-2.result.slots.entries c.args.ticks c.in_ok-held.ensures.order c.in_ok-held.ensures.ticks c.requires.some c.requires.few c.new-2.ensures
