-- The shape of a table of the tree.
use Rattle.std.specs.Prelude.{List, [], ◌∷◌, map, Option, Some, None, option_map, option_and_then, Result, Ok}
use denote.Ref.{Bor}
use Rattle.std.specs.BTreeMap.{BTreeMap}
use Rattle.std.specs.Prelude.{String}
use Rattle.std.specs.declared.alloc.Global.{Global}
use Rattle.toml.specs.Data.{Data, table, Items, no_items, item, Members, get_member, as_array}
use Rattle.toml.specs.View.{table_view}
use Rattle.toml.specs.declared.value.Value.{Value}
use Rattle.table_fields.specs.Words.{table_word}
use Rattle.table_fields.specs.Faults.{ok_or}
use Rattle.table_fields.specs.declared.fault.TableFault.{TableFault}
use Rattle.table_fields.specs.declared.fault.TableFault.TheVariants.{BadValue}
use Rattle.table_fields.specs.declared.place.Key.TheVariants as key
use Rattle.table_fields.specs.declared.place.Table.{Table}
use Rattle.table_fields.specs.declared.place.Place.{Place}

-- the data of tables that were lent
abbrev pub tables_view : List (Bor (BTreeMap (String Global) Value)) → List Members
tables_view ts = map (λ t. table_view t.now) ts

-- the tables that the items are, where each is one
abbrev pub all_tables : Items → Option (List Members)
all_tables no_items = Some []
all_tables (item (table ms) ds) = option_map (λ rest. ms ∷ rest) (all_tables ds)
all_tables (item _ ds) = None

abbrev pub rows_in : Data → Option (List Members)
rows_in d = option_and_then all_tables (as_array d)

abbrev pub shape_of : Table → Place
shape_of t = record { table = t; row = 0; key = key.Other }

abbrev pub rows_or : Table → Option Data → Result (List Members) TableFault
rows_or t None = Ok []
rows_or t (Some d) = ok_or (rows_in d) (BadValue (shape_of t))

-- the rows of an array of tables, which may be absent
unfoldable pub rows_at : Members → Table → Result (List Members) TableFault
rows_at root t = rows_or t (get_member (table_word t) root)
