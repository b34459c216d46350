-- The refusals that belong to the class of a picture, and the rows that they speak of.
use Rattle.std.specs.Prelude.{ℕ, ◌==◌, ◌&&◌, Bool, true, false, List, Option, Some, None, slice_get}
use Rattle.std.specs.List.{filter, list_any}
use Rattle.std.specs.Option.{option_map_or}
use Rattle.std.specs.Cmp.Lexicographic.{pointwise}
use Rattle.net_rows.specs.Network.{Network}
use Rattle.net_rows.specs.declared.row.Route.{Route}
use Rattle.net_rows.specs.declared.row.StandIn.{StandIn}
use Rattle.table_checker.specs.declared.refusal.Refusal.{Refusal}
use Rattle.all_refusals.specs.declared.row.RowRefusal.{RowRefusal}
use Rattle.all_refusals.specs.declared.row.TableRow.{TableRow}
use Rattle.all_refusals.specs.declared.row.TableRow.TheVariants as table
use Rattle.network_picture.specs.Shown.{named_class}

-- the refusal is of this class, or of none
abbrev pub is_class : Option (List ℕ) → List ℕ → Bool
is_class None other = false
is_class (Some class) other = pointwise ◌==◌ class other

abbrev pub is_here : Option (List ℕ) → Refusal → Bool
is_here class refusal = option_map_or (is_class class) (named_class refusal) true

abbrev pub here : Option (List ℕ) → List RowRefusal → List RowRefusal
here class found = filter (λ f. is_here class f.refusal) found

-- a refusal speaks of such a row
abbrev pub speaks_of : (TableRow → Bool) → List RowRefusal → Bool
speaks_of is_row found = list_any (λ f. is_row f.row) found

-- the place of a route row of the same node and prefix, of which tables have one
abbrev pub is_route : Network → Route → TableRow → Bool
is_route t r (table.Route place) = option_map_or (λ (q : Route). (q.node == r.node) && pointwise ◌==◌ q.prefix r.prefix) (slice_get t.routes place) false
is_route t r _ = false

abbrev pub is_stand_in : Network → StandIn → TableRow → Bool
is_stand_in t s (table.StandIn place) = option_map_or (λ (q : StandIn). (q.node == s.node) && pointwise ◌==◌ q.prefix s.prefix) (slice_get t.stand_ins place) false
is_stand_in t s _ = false

abbrev pub is_node : ℕ → TableRow → Bool
is_node n (table.Node place) = place == n
is_node n _ = false

abbrev pub is_link : ℕ → TableRow → Bool
is_link n (table.Link place) = place == n
is_link n _ = false
