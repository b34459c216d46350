use Rattle.std.proofs.Common.{◌≡◌, map, drop}
use Rattle.named_rows.specs.Each.{each}
use Rattle.named_rows.specs.Reading.{named_entry, all_named}
use Rattle.named_rows.proofs.several.all_named.Given as goal

abbrev pub invariant-loop-name : goal.invariant-loop-name
invariant-loop-name g l = each (named_entry (map g.R.Named.name_of l.rows) l.at) (g.P.Places.places l.found) (drop l.name-index l.names) ≡ all_named (map g.R.Named.name_of l.rows) l.at l.names
