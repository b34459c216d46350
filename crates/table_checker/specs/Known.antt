-- What was looked up.
use Rattle.std.specs.Prelude.{◌≡◌, ◌<◌, ◌&&◌, ℕ, Bool, true, nat_lt, List, Option, Some, None, slice_get, unwrap_or}
use Rattle.std.specs.List.{list_all}
use Rattle.net_rows.specs.Network.{Network, other_end}
use Rattle.net_rows.specs.declared.row.Route.{Route}
use Rattle.rows_in_force.specs.LinkEnds.{AreEnds}
use Rattle.table_checker.specs.declared.class.At.{At}
use Rattle.table_checker.specs.declared.known.Known.{Known}
use Rattle.table_checker.specs.Ranks.{rank_at}

-- the code of a rank or of none
abbrev pub code_of : Option ℕ → ℕ
code_of (Some rank) = rank
code_of None = 65536

-- what a code says of a rank: with a greater one nothing
pub record IsCodeOf (rank : Option ℕ) (code : ℕ) : Type 0 where
  pub some : code < 65536 → rank ≡ Some code
  pub none : code ≡ 65536 → rank ≡ None

-- the codes of ranks say what the certificate does
abbrev pub AreKnown : At → List ℕ → Type 0
AreKnown at codes = (n code : ℕ) → slice_get codes n ≡ Some code → IsCodeOf (rank_at at.tables.now at.cert.now n at.class) code

-- a node's code
abbrev pub code_at : List ℕ → ℕ → ℕ
code_at codes n = unwrap_or (slice_get codes n) 65537

-- the node has a rank, and the other end of each link a lesser one
abbrev pub falls_by : Network → List ℕ → ℕ → List ℕ → Bool
falls_by t codes n links = nat_lt (code_at codes n) 65536 && list_all (λ l. nat_lt (code_at codes (other_end t n l)) (code_at codes n)) links

-- the ranks fall along the route at each of these places
abbrev pub AreFalling : Network → List ℕ → List (Option ℕ) → Type 0
AreFalling t codes falling = (n place : ℕ) (r : Route) → slice_get falling n ≡ Some (Some place) → slice_get t.routes place ≡ Some r → falls_by t codes n r.links ≡ true

-- what is known is right at the class
pub record IsKept (at : At) (known : Known) : Type 0 where
  pub ranks : AreKnown at known.ranks
  pub falling : AreFalling at.tables.now known.ranks known.falling

-- the rows in force are those of the tables at the class, and the ends of links are theirs
pub record HasRows (at : At) : Type 0 where
  pub routes : at.routes.now ≡ record { rows = at.tables.now.routes; class = at.class }
  pub stand_ins : at.stand_ins.now ≡ record { rows = at.tables.now.stand_ins; class = at.class }
  pub ends : AreEnds at.tables.now at.ends.now
