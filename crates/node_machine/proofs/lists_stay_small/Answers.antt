use Rattle.node_machine.proofs.lists_stay_small.Goals as goal
use Rattle.node_machine.proofs.Growth as growth

pub returns-clause-begins : goal.returns-clause-begins
returns-clause-begins c t = growth.begins_within t

pub returns-clause-goes_on : goal.returns-clause-goes_on
returns-clause-goes_on c t = growth.stays_within t
