-- Refusals, each with the row of the tables that it speaks of.
use Rattle.std.specs.Prelude.{◌≡◌, ℕ, List, ◌++◌, map, Option, Some, slice_get, option_map}
use Rattle.net_rows.specs.Network.{Network}
use Rattle.net_rows.specs.declared.row.Issuer.{Issuer}
use Rattle.net_rows.specs.declared.row.Route.{Route}
use Rattle.net_rows.specs.declared.row.StandIn.{StandIn}
use Rattle.table_checker.specs.declared.refusal.Refusal.{Refusal}
use Rattle.all_refusals.specs.declared.row.TableRow.{TableRow}
use Rattle.all_refusals.specs.declared.row.TableRow.TheVariants as table
use Rattle.all_refusals.specs.declared.row.RowRefusal.{RowRefusal}

-- a row of the tables: what stands in it, or else its place
pub data Row : Type 0 where
  RouteRow : Route → Row
  StandInRow : StandIn → Row
  IssuerRow : Issuer → Row
  AcquirerAt : ℕ → Row
  NodeAt : ℕ → Row
  LinkAt : ℕ → Row

-- a refusal and its row
pub record Refused : Type 0 where
  pub refusal : Refusal
  pub row : Option Row

-- the row at a place of its table, if there is one
abbrev pub row_at : Network → TableRow → Option Row
row_at t (table.Route place) = option_map RouteRow (slice_get t.routes place)
row_at t (table.StandIn place) = option_map StandInRow (slice_get t.stand_ins place)
row_at t (table.Issuer place) = option_map IssuerRow (slice_get t.issuers place)
row_at t (table.Acquirer place) = Some (AcquirerAt place)
row_at t (table.Node place) = Some (NodeAt place)
row_at t (table.Link place) = Some (LinkAt place)

-- a refusal with what stands in its row
abbrev pub shown : Network → RowRefusal → Refused
shown t r = record { refusal = r.refusal; row = row_at t r.row }

-- these refusals come behind those that were there
abbrev pub Adds : Network → List RowRefusal → List RowRefusal → List Refused → Type 0
Adds t old new more = map (shown t) new ≡ map (shown t) old ++ more
