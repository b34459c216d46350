use Rattle.std.proofs.Common.{◌≡◌, ℕ, List, [], drop, length, Result}
use Rattle.std.specs.List.{AllByRecursion}
use Rattle.table_fields.specs.Shapes.{tables_view}
use Rattle.named_rows.specs.Each.{each}
use Rattle.net_tables.specs.AllRows.{numbered}
use Rattle.table_fields.specs.declared.fault.TableFault.{TableFault}
use Rattle.net_tables.proofs.rows.each_row.Given as goal

pub record AreRead {A R T : Type 0} (read : List R → A → Result R TableFault) (knows : T → List R → Type 0) (fits : R → Type 0) (taken : T) (count : ℕ) (done : List R) (all : List A) : Type 0 where
  pub same : each read done (drop count all) ≡ each read [] all
  pub counted : length done ≡ count
  pub known : knows taken done
  pub fit : AllByRecursion fits done

abbrev pub invariant-loop-i : goal.invariant-loop-i
invariant-loop-i g l = AreRead (numbered l.table (g.R.RowReader.reads l.reader)) (g.R.RowReader.knows l.reader) (g.R.RowReader.fits l.reader) l.taken l.i l.done.items (tables_view l.rows)
