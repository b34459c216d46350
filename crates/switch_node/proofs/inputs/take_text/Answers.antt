use Rattle.std.proofs.Common.{ap, sym, ◌∙◌, inr}
use Rattle.network_law.specs.Traces.{Take}
use Rattle.node_machine.specs.Machine.{refuse}
use Rattle.node_machine.specs.Lists.{Lists, view}
use Rattle.switch_node.proofs.Reading.{does_take, faults_take}
use Rattle.message_steps.proofs.Complete.{taken_complete}
use Rattle.switch_node.proofs.inputs.take_text.Goals as goal

pub returns-in-Some-clause-fault : goal.returns-in-Some-clause-fault
returns-in-Some-clause-fault c =
    let packet = c.requires.packet in
    inr (rw (← c.books.ensures) (faults_take c.args.tables.now c.args.node c.books.result.now.lists c.args.link c.args.serial c.args.bytes.now c.read_again.new.self c.in-Some.fault packet c.in_default.ensures.exact (sym c.in-Some.is ∙ c.in_ok-refused.ensures c.args.serial)))

pub returns-clause-ok : goal.returns-clause-ok
returns-clause-ok c =
    let t = c.args.tables.now in
    let n = c.args.node in
    let packet = c.requires.packet in
    let accepted = sym c.in_default-refused.is ∙ c.in_ok-refused.ensures c.args.serial ∙ ap (λ (y : Lists). refuse t n (view t n y) (Take c.args.link c.args.serial c.read_again.new.self)) c.books.ensures in
    does_take t n c.args.link c.args.serial c.args.bytes.now c.read_again.new.self c.args.draft.now c.take_message.new.draft packet c.in_default.ensures.exact accepted (c.in_ok-take_message.ensures.ok c.args.serial)

pub take_message-requires-clause-complete : goal.take_message-requires-clause-complete
take_message-requires-clause-complete c = taken_complete c.args.tables.now c.args.node (view c.args.tables.now c.args.node c.books.result.now.lists) c.args.link c.args.serial c.read_again.new.self (sym c.in_default-refused.is ∙ c.in_ok-refused.ensures c.args.serial)
