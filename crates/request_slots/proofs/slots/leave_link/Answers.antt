use Rattle.std.proofs.Common.{rules}
use Rattle.request_slots.proofs.Lists.{loose_after}
use Rattle.request_slots.proofs.Leaving.{not_linked}
use Rattle.request_slots.proofs.slots.leave_link.Goals as goal

pub returns-then-is_member-clause-loose : goal.returns-then-is_member-clause-loose
returns-then-is_member-clause-loose c = rw c.unlink.ensures (loose_after c.args.wheel.now.link c.args.slot)

pub returns-else-is_member-clause-wheel : goal.returns-else-is_member-clause-wheel
returns-else-is_member-clause-wheel c = not_linked c.args.wheel.now c.args.slot (search rules)
