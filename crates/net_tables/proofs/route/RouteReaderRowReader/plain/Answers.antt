use Rattle.net_rows.specs.declared.row.Route.{Route}
use Rattle.named_rows.specs.Rows.{node_names}
use Rattle.named_rows.proofs.Pushed.{row_taken}
use Rattle.net_tables.specs.Rows.{route_prefixes}
use Rattle.net_tables.specs.Reading.{route_of}
use Rattle.net_tables.proofs.PlainRows.{row_next}
use Rattle.net_tables.proofs.route.RouteReaderRowReader.plain.Goals as goal

pub returns-clause-value : goal.returns-clause-value
returns-clause-value c =
    let reads = route_of (node_names c.args.self.now.nodes.now) c.args.self.now.links.now in
    row_next c.args.table reads route_prefixes _ _ _ c.args.taken.now c.take.new.self c.args._done.now _ c.args.text.now _ c.in-Some.ensures.value c.requires (c.take.ensures.taken c.if-not-take.false)

pub returns-clause-taken : goal.returns-clause-taken
returns-clause-taken c = row_taken (λ (r : Route). r.node) (λ (r : Route). r.prefix) _ c.args.taken.now c.take.new.self c.args._done.now _ c.requires (c.take.ensures.taken c.if-not-take.false).taken
