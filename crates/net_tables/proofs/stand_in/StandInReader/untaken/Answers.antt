use Rattle.std.proofs.Common.{◌≡◌, Some, rules}
use Rattle.table_fields.specs.Values.{whole}
use Rattle.table_fields.specs.declared.place.Key.TheVariants as key
use Rattle.named_rows.specs.Rows.{node_names}
use Rattle.net_tables.proofs.PlainRows.{node_next, prefix_next, amount_next, stand_in_next}
use Rattle.net_tables.proofs.Words.{word_some, word_bare}
use Rattle.net_tables.proofs.stand_in.StandInReader.untaken.Goals as goal

pub bare_row_header-requires-clause-some : goal.bare_row_header-requires-clause-some
bare_row_header-requires-clause-some c = rw c.word.ensures (word_some c.args.table)

pub bare_row_header-requires-clause-bare : goal.bare_row_header-requires-clause-bare
bare_row_header-requires-clause-bare c = rw c.word.ensures (word_bare c.args.table)

pub returns-clause-value : goal.returns-clause-value
returns-clause-value c =
    let names = node_names c.args.self.now.nodes.now in
    let header = rw c.word.ensures at c.in_ok-rest.ensures in
    let node = node_next names key.Node _ _ _ _ (rw c.word-2.ensures at c.in_ok-name.ensures) c.in_ok-node.ensures.named in
    let prefix = prefix_next key.Prefix _ _ _ _ (rw c.word-3.ensures at c.in_ok-digits.ensures) c.in_ok-prefix.ensures in
    let day_is : whole 0 999_999_999_999 c.in_ok-number.number ≡ Some c.in_ok-day.day = search rules in
    let day = amount_next key.Day c.in_ok-number.number _ _ _ (rw c.word-4.ensures at c.in_ok-number.ensures) day_is in
    let single_is : whole 0 999_999_999_999 c.in_ok-number-2.number ≡ Some c.in_ok-single.single = search rules in
    let single = amount_next key.Single c.in_ok-number-2.number _ _ _ (rw c.word-5.ensures at c.in_ok-number-2.ensures) single_is in
    stand_in_next c.args.table names _ _ _ _ c.args.text.now _ _ _ _ _ header node prefix day single
