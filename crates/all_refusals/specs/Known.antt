-- What is at hand at a class, and what was found so far.
use Rattle.std.specs.Prelude.{◌≡◌, ⊤, ℕ, List, Option, slice_get, unwrap_or}
use Rattle.rows_in_force.specs.LinkEnds.{AreEnds}
use Rattle.table_checker.specs.Ranks.{rank_at}
use Rattle.table_checker.specs.declared.refusal.Refusal.{Refusal}
use Rattle.table_checker.specs.declared.refusal.Refusal.TheVariants.{AcquirerTwice, NodeIdTwice}
use Rattle.all_refusals.specs.declared.at.At.{At}
use Rattle.all_refusals.specs.declared.lists.Lists.{Lists}
use Rattle.all_refusals.specs.declared.ranks.Lookup.{Lookup}
use Rattle.all_refusals.specs.declared.ranks.Lookup.TheVariants as lookups
use Rattle.all_refusals.specs.declared.ranks.Ranks.{Ranks}
use Rattle.all_refusals.specs.declared.row.RowRefusal.{RowRefusal}
use Rattle.all_refusals.specs.declared.twice.IdTable.{IdTable}
use Rattle.all_refusals.specs.declared.twice.IdTable.TheVariants as ids
use Rattle.all_refusals.specs.Found.{Rule, HasRanks, RanksFall, IsNamed, IsWithinCeiling, HasIssuer}
use Rattle.all_refusals.specs.Rows.{Row, AcquirerAt, NodeAt}

-- the rows in force are those of the tables at the class, and the ends of links are theirs
pub record HasRows (at : At) : Type 0 where
  pub routes : at.routes.now ≡ record { rows = at.tables.now.routes; class = at.class }
  pub stand_ins : at.stand_ins.now ≡ record { rows = at.tables.now.stand_ins; class = at.class }
  pub ends : AreEnds at.tables.now at.ends.now

-- what is known of a node's rank, if anything, is right
abbrev pub IsFound : Option ℕ → Lookup → Type 0
IsFound rank lookups.Open = ⊤
IsFound rank (lookups.Done found) = found ≡ rank

-- what is known of it
abbrev pub lookup_at : List Lookup → ℕ → Lookup
lookup_at found n = unwrap_or (slice_get found n) lookups.Open

-- and so for all nodes at the class
abbrev pub AreRanks : At → Ranks → Type 0
AreRanks at ranks = (n : ℕ) → IsFound (rank_at at.tables.now at.cert.now n at.class) (lookup_at ranks.found n)

-- the refusals of a rule
abbrev pub list_of : Lists → Rule → List RowRefusal
list_of found HasRanks = found.no_rank.items
list_of found RanksFall = found.not_less.items
list_of found IsNamed = found.not_named.items
list_of found IsWithinCeiling = found.over_ceiling.items
list_of found HasIssuer = found.no_issuer.items

-- the refusal of an id that stands twice, and its row
abbrev pub id_refusal : IdTable → List ℕ → Refusal
id_refusal ids.Acquirers = AcquirerTwice
id_refusal ids.Nodes = NodeIdTwice

abbrev pub id_row : IdTable → ℕ → Row
id_row ids.Acquirers = AcquirerAt
id_row ids.Nodes = NodeAt
