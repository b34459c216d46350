-- The rows of a table of the tree.
use Rattle.std.specs.Prelude.{ℕ, ◌+◌, List, [], length, Result}
use Rattle.toml.specs.Data.{Members}
use Rattle.card_digits.specs.Attempts.{◌>>=◌}
use Rattle.table_fields.specs.Fields.{RowText}
use Rattle.table_fields.specs.Shapes.{rows_at}
use Rattle.table_fields.specs.declared.fault.TableFault.{TableFault}
use Rattle.table_fields.specs.declared.place.Table.{Table}
use Rattle.named_rows.specs.Each.{each}

-- the row of a table at a number
abbrev pub row_at : Table → ℕ → Members → RowText
row_at t n members = record { members = members; table = t; number = n }

-- a row, numbered after the rows before it
abbrev pub numbered : {R : Type 0} → Table → (List R → RowText → Result R TableFault) → List R → Members → Result R TableFault
numbered t read done members = read done (row_at t (length done + 1) members)

-- the rows of a table, each read after those before it
abbrev pub all_rows : {R : Type 0} → Members → Table → (List R → RowText → Result R TableFault) → Result (List R) TableFault
all_rows root t read = rows_at root t >>= each (numbered t read) []
