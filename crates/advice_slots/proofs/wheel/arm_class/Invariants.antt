use Rattle.std.proofs.Common.{◌-◌, length}
use Rattle.chain_links.specs.Lists.{list_at}
use Rattle.tick_wheel.specs.Wheel.{due_after}
use Rattle.advice_slots.proofs.Arming.{IsArming}
use Rattle.advice_slots.proofs.wheel.arm_class.Given as goal

abbrev pub invariant-loop-cursor : goal.invariant-loop-cursor
invariant-loop-cursor l = IsArming (list_at l.fn.wheel.link l.class) l.fn.wheel l.wheel (l.ticks - 1) l.cursor

abbrev pub decreases-loop-cursor : goal.decreases-loop-cursor
decreases-loop-cursor l = length (list_at l.fn.wheel.link l.class) - length (due_after l.wheel (l.ticks - 1))
