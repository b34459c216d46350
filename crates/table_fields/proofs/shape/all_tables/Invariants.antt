use Rattle.std.proofs.Common.{◌≡◌, ◌++◌, drop, option_map}
use Rattle.toml.specs.View.{items_view}
use Rattle.table_fields.specs.Shapes.{tables_view, all_tables}
use Rattle.table_fields.proofs.shape.all_tables.Given as goal

abbrev pub invariant-loop-value : goal.invariant-loop-value
invariant-loop-value l =
    option_map (λ rest. tables_view l.tables.items ++ rest) (all_tables (items_view (drop l.value-index l.values))) ≡ all_tables (items_view l.values)
