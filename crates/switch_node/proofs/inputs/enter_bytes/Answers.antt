use Rattle.std.proofs.Common.{inr, sym, ◌∙◌}
use Rattle.switch_node.proofs.Reading.{faults_enter}
use Rattle.message_steps.proofs.Complete.{entered_complete}
use Rattle.node_machine.specs.Lists.{view}
use Rattle.switch_node.proofs.inputs.enter_bytes.Goals as goal

pub returns-in-Some-clause-fault : goal.returns-in-Some-clause-fault
returns-in-Some-clause-fault c = inr (rw (← c.books.ensures) (faults_enter c.args.tables.now c.args.node c.books.result.now.lists c.args.bytes.now c.read_again.new.self c.in-Some.fault (rw c.as_slice.ensures at c.in_default.ensures.exact) (sym c.in-Some.is ∙ c.in_ok-refused.ensures)))

pub enter-requires-clause-complete : goal.enter-requires-clause-complete
enter-requires-clause-complete c = entered_complete c.args.tables.now c.args.node (view c.args.tables.now c.args.node c.books.result.now.lists) c.read_again.new.self (sym c.in_default-refused.is ∙ c.in_ok-refused.ensures)
