use Rattle.std.proofs.Common.{◌≡◌, length}
use denote.Text.{Utf8}
use denote.Shadow.{shadow}
use Rattle.std.specs.List.{AllByRecursion}
use Rattle.toml_parser.specs.Lexical.{skip_blank}
use Rattle.net_tables.specs.InOrder.{AreNext}
use Rattle.net_tables.proofs.rows.next_rows.Given as goal

abbrev pub invariant-rows : goal.invariant-rows
invariant-rows g l =
    shadow (Utf8 l.rest) × (shadow (Utf8 l.ahead) × (l.ahead ≡ skip_blank l.rest)) × AreNext l.table (g.R.RowReader.reads l.reader) l.done.items l.fn.text l.rest
    × g.R.RowReader.knows l.reader l.taken l.done.items × AllByRecursion (g.R.RowReader.fits l.reader) l.done.items

abbrev pub decreases-rows : goal.decreases-rows
decreases-rows g l = length l.rest
