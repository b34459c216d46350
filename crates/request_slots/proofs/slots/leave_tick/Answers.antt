use Rattle.std.proofs.Common.{rules}
use Rattle.request_slots.proofs.Leaving.{not_armed, not_armed_now}
use Rattle.request_slots.proofs.slots.leave_tick.Goals as goal

pub returns-then-is_armed-clause-loose : goal.returns-then-is_armed-clause-loose
returns-then-is_armed-clause-loose c = rw c.disarm.ensures (not_armed_now c.args.wheel.now c.args.slot)

pub returns-else-is_armed-clause-wheel : goal.returns-else-is_armed-clause-wheel
returns-else-is_armed-clause-wheel c = not_armed c.args.wheel.now c.args.slot (search rules)
