use Rattle.net_rows.specs.declared.row.StandIn.{StandIn}
use Rattle.named_rows.specs.Rows.{node_names}
use Rattle.named_rows.proofs.Pushed.{row_taken}
use Rattle.net_tables.specs.Rows.{stand_in_prefixes}
use Rattle.net_tables.specs.Reading.{stand_in_of}
use Rattle.net_tables.proofs.PlainRows.{row_next}
use Rattle.net_tables.proofs.stand_in.StandInReaderRowReader.plain.Goals as goal

pub returns-clause-value : goal.returns-clause-value
returns-clause-value c =
    let reads = stand_in_of (node_names c.args.self.now.nodes.now) in
    row_next c.args.table reads stand_in_prefixes _ _ _ c.args.taken.now c.take.new.self c.args._done.now _ c.args.text.now _ c.in-Some.ensures.value c.requires (c.take.ensures.taken c.if-not-take.false)

pub returns-clause-taken : goal.returns-clause-taken
returns-clause-taken c = row_taken (λ (r : StandIn). r.node) (λ (r : StandIn). r.prefix) _ c.args.taken.now c.take.new.self c.args._done.now _ c.requires (c.take.ensures.taken c.if-not-take.false).taken
