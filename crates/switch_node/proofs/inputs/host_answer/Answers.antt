use Rattle.std.proofs.Common.{inr}
use Rattle.switch_node.proofs.Starts.{faults_host}
use Rattle.switch_node.proofs.inputs.host_answer.Goals as goal

pub returns-in-Some-clause-fault : goal.returns-in-Some-clause-fault
returns-in-Some-clause-fault c = inr (rw (← c.books.ensures) (faults_host c.args.tables.now c.args.node c.args.ask c.args.code c.books.result.now.lists c.in-Some.fault (c.in-Some.ensures c.args.tables.now c.args.node c.args.code)))
