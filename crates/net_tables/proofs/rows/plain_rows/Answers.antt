use Rattle.std.proofs.Common.{rules}
use Rattle.toml_rows.specs.Rows.{row_line}
use Rattle.toml_rows.proofs.Ahead.{headed_ahead}
use Rattle.table_fields.specs.Words.{table_word}
use Rattle.net_tables.proofs.NextRows.{next_more}
use Rattle.net_tables.proofs.Loops.{all_pushed}
use Rattle.net_tables.proofs.rows.plain_rows.Goals as goal

pub rows-preserved : goal.rows-preserved
rows-preserved g c =
    let l = c.rows in
    let (text, next, known, fit) = l.invariant in
    let row = rw (c.deref.ensures.value, c.skip_blank-ahead.ensures.rest) at c.in-Some.ensures.value in
    let stands = headed_ahead (row_line (table_word c.args.table)) row.members l.rest.now c.in-Some.after.now row.stands in
    let taken = rw c.deref.ensures.value at c.in-Some.ensures.taken in
    let more = next_more c.args.table (g.R.RowReader.reads c.args.reader.now) l.done.items c.in-Some.read row.members c.args.text.now l.rest.now c.in-Some.after.now next stands row.is_read in
    rw c.in-Ok.ensures.items (search rules, more, taken, all_pushed _ l.done.items c.in-Some.read fit c.in-Some.ensures.fits)
