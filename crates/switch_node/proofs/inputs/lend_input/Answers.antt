use Rattle.std.proofs.Common.{inr}
use Rattle.switch_node.proofs.Starts.{faults_lend}
use Rattle.switch_node.proofs.inputs.lend_input.Goals as goal

pub returns-in-Some-clause-fault : goal.returns-in-Some-clause-fault
returns-in-Some-clause-fault c = inr (rw (← c.books.ensures) (faults_lend c.args.tables.now c.args.node c.args.borrower c.args.card.now c.args.date.now c.args.amount c.books.result.now.lists c.in-Some.fault c.in-Some.ensures))

pub refuse_lend-requires : goal.refuse_lend-requires
refuse_lend-requires c = rw (← c.books.ensures) at c.requires.left
