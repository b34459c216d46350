use Rattle.std.proofs.Common.{inr}
use Rattle.node_machine.specs.Lists.{view}
use Rattle.switch_node.proofs.Reading.{does_packet, faults_packet}
use Rattle.switch_node.proofs.inputs.take_read_packet.Goals as goal

pub returns-in-Some-clause-fault : goal.returns-in-Some-clause-fault
returns-in-Some-clause-fault c = inr (faults_packet c.args.tables.now c.args.node c.args.draft.now.base c.args.link c.args.serial c.args.bytes.now c.args.packet.now c.in-Some.fault c.requires.read (c.in-Some.ensures (view c.args.tables.now c.args.node c.args.draft.now.base) c.args.serial))

pub returns-clause-ok : goal.returns-clause-ok
returns-clause-ok c = does_packet c.args.tables.now c.args.node c.args.link c.args.serial c.args.bytes.now c.args.packet.now c.args.draft.now c.take_packet.new.draft c.requires.read (c.in_default.ensures (view c.args.tables.now c.args.node c.args.draft.now.base) c.args.serial) (c.in_ok-take_packet.ensures.ok c.args.tables.now c.args.node c.args.serial)
