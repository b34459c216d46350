use Rattle.net_rows.specs.declared.row.StandIn.{StandIn}
use Rattle.named_rows.proofs.Pushed.{row_taken}
use Rattle.net_tables.proofs.stand_in.StandInReaderRowReader.read.Goals as goal

pub returns-clause-taken : goal.returns-clause-taken
returns-clause-taken c = row_taken (λ (r : StandIn). r.node) (λ (r : StandIn). r.prefix) _ c.args.taken.now c.new_prefix_at.new.taken c.args._done.now _ c.requires c.in_ok-node.ensures.taken
