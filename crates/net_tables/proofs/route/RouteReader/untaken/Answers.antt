use Rattle.table_fields.specs.declared.place.Key.TheVariants as key
use Rattle.named_rows.specs.Rows.{node_names}
use Rattle.net_tables.proofs.PlainRows.{node_next, prefix_next, route_next}
use Rattle.net_tables.proofs.Words.{word_some, word_bare}
use Rattle.net_tables.proofs.route.RouteReader.untaken.Goals as goal

pub bare_row_header-requires-clause-some : goal.bare_row_header-requires-clause-some
bare_row_header-requires-clause-some c = rw c.word.ensures (word_some c.args.table)

pub bare_row_header-requires-clause-bare : goal.bare_row_header-requires-clause-bare
bare_row_header-requires-clause-bare c = rw c.word.ensures (word_bare c.args.table)

pub returns-clause-value : goal.returns-clause-value
returns-clause-value c =
    let names = node_names c.args.self.now.nodes.now in
    let header = rw c.word.ensures at c.in_ok-rest.ensures in
    let node = node_next names key.Node _ _ _ _ (rw c.word-2.ensures at c.in_ok-name.ensures) c.in_ok-node.ensures.named in
    let prefix = prefix_next key.Prefix _ _ _ _ (rw c.word-3.ensures at c.in_ok-digits.ensures) c.in_ok-prefix.ensures in
    route_next c.args.table names c.args.self.now.links.now _ _ _ c.args.text.now _ _ _ _ header node prefix c.in_ok-links.ensures.field
