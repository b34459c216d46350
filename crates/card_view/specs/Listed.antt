-- All refusals, as text.
use Rattle.std.specs.Prelude.{◌+◌, List, ◌++◌, codes}
use Rattle.std.specs.Fmt.{decimal}
use Rattle.std.specs.List.{flat_map}
use Rattle.net_rows.specs.Network.{Network}
use Rattle.all_refusals.specs.declared.row.RowRefusal.{RowRefusal}
use Rattle.all_refusals.specs.declared.row.TableRow.{TableRow}
use Rattle.all_refusals.specs.declared.row.TableRow.TheVariants as table
use Rattle.bundle_text.specs.Lines.{Text, line_feed, refusal_text}

-- a table as its rows begin, and the number of a row, counted from 1
abbrev pub row_text : TableRow → Text
row_text (table.Node place) = codes "[[node]] " ++ decimal (place + 1)
row_text (table.Link place) = codes "[[link]] " ++ decimal (place + 1)
row_text (table.Acquirer place) = codes "[[acquirer]] " ++ decimal (place + 1)
row_text (table.Issuer place) = codes "[[issuer]] " ++ decimal (place + 1)
row_text (table.Route place) = codes "[[route]] " ++ decimal (place + 1)
row_text (table.StandIn place) = codes "[[stand_in]] " ++ decimal (place + 1)

-- a refusal in the words of the verdict, and its row
abbrev pub found_line : Network → RowRefusal → Text
found_line t r = refusal_text t r.refusal ++ (codes "; " ++ row_text r.row ++ line_feed)

abbrev pub refusals_text : Network → List RowRefusal → Text
refusals_text t found = flat_map (found_line t) found
