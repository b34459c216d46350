use Rattle.std.proofs.Common.{◌<◌, length, rules, arith}
use Rattle.toml.specs.View.{table_view}
use Rattle.toml.proofs.Blanks.{skip_within}
use Rattle.toml_parser.specs.Lexical.{skip_blank}
use Rattle.toml_rows.specs.Rows.{row_line}
use Rattle.toml_rows.proofs.Ahead.{headed_ahead}
use Rattle.table_fields.specs.Words.{table_word}
use Rattle.net_tables.proofs.NextRows.{next_more}
use Rattle.net_tables.proofs.Loops.{all_pushed}
use Rattle.net_tables.proofs.rows.next_rows.Goals as goal

pub rows-preserved : goal.rows-preserved
rows-preserved g c =
    let l = c.rows in
    let (text, ahead, next, known, fit) = l.invariant in
    let below = rw (c.word.ensures, ahead.1) at c.in-Some.ensures.row in
    let here = headed_ahead (row_line (table_word c.args.table)) (table_view c.in-Some.members) l.rest.now c.in-Some.after.now below in
    let read = rw (c.deref.ensures.value, c.len.ensures, l.done.ok.0) at c.in-Ok.ensures.value in
    let taken = rw c.deref.ensures.value at c.in-Ok.ensures.taken in
    let more = next_more c.args.table (g.R.RowReader.reads c.args.reader.now) l.done.items c.in-Ok.read (table_view c.in-Some.members) c.args.text.now l.rest.now c.in-Some.after.now next here read in
    rw c.in-Ok-push.ensures.items (search rules, (search rules, c.skip_blank-ahead.ensures.rest), more, taken, all_pushed _ l.done.items c.in-Ok.read fit c.in-Ok.ensures.fits)

pub rows-smaller : goal.rows-smaller
rows-smaller g c =
    let (text, ahead, next, known, fit) = c.rows.invariant in
    let less : length c.in-Some.after.now < length (skip_blank c.rows.rest.now) = rw ahead.1 at c.in-Some.ensures.shorter in
    omega (arith, less, skip_within c.rows.rest.now)
