use Rattle.net_rows.specs.declared.row.Route.{Route}
use Rattle.named_rows.proofs.Pushed.{row_taken}
use Rattle.net_tables.proofs.route.RouteReaderRowReader.read.Goals as goal

pub returns-clause-taken : goal.returns-clause-taken
returns-clause-taken c = row_taken (λ (r : Route). r.node) (λ (r : Route). r.prefix) _ c.args.taken.now c.new_prefix_at.new.taken c.args._done.now _ c.requires c.in_ok-node.ensures.taken
