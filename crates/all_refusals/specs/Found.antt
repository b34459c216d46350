-- All refusals, in the order in which the first is sought.
use Rattle.std.specs.Prelude.{ℕ, zero, suc, ◌+◌, ◌==◌, nat_lt, List, [], ◌∷◌, ◌++◌, length, map, Option, Some, None, if◌then◌else◌}
use Rattle.std.specs.List.{flat_map, list_any}
use Rattle.std.specs.Option.{option_map_or}
use Rattle.std.specs.Cmp.Lexicographic.{pointwise}
use Rattle.card_digits.specs.Numbers.{pad11}
use Rattle.net_rows.specs.Network.{Network, classes, issuer, route, stand_in}
use Rattle.net_rows.specs.declared.row.Issuer.{Issuer}
use Rattle.net_rows.specs.declared.row.Link.{Link}
use Rattle.net_rows.specs.declared.row.Route.{Route}
use Rattle.net_rows.specs.declared.row.StandIn.{StandIn}
use Rattle.rank_rows.specs.declared.rank.Rank.{Rank}
use Rattle.rows_in_force.specs.Own.{own_row}
use Rattle.table_checker.specs.declared.refusal.Refusal.{Refusal}
use Rattle.table_checker.specs.declared.refusal.Refusal.TheVariants.{NoIssuer, AcquirerTwice, NodeIdTwice, TimerTooLong}
use Rattle.table_checker.specs.Rules.{unranked, unranked_over, not_less_over, not_named, over_ceiling}
use Rattle.all_refusals.specs.declared.row.RowRefusal.{RowRefusal}
use Rattle.all_refusals.specs.Rows.{Row, RouteRow, StandInRow, IssuerRow, AcquirerAt, NodeAt, LinkAt, Refused}

-- the rules that go by class
pub data Rule : Type 0 where
  HasRanks : Rule
  RanksFall : Rule
  IsNamed : Rule
  IsWithinCeiling : Rule
  HasIssuer : Rule

-- in the order of their refusals
abbrev pub class_rules : List Rule
class_rules = HasRanks ∷ RanksFall ∷ IsNamed ∷ IsWithinCeiling ∷ HasIssuer ∷ []

-- what belongs to each number below a number
abbrev pub each_below : {B : Type 0} → (ℕ → List B) → ℕ → List B
each_below f zero = []
each_below f (suc n) = each_below f n ++ f n

-- a refusal that speaks of this row, if there is one
abbrev pub of_row : Row → Option Refusal → List Refused
of_row row None = []
of_row row (Some refusal) = record { refusal = refusal; row = Some row } ∷ []

module _ (t : Network) (cert : List Rank) (class : List ℕ) where
  -- the row's own node and the other end of each link, where they have no rank
  abbrev pub no_ranks_of : ℕ → Route → List Refused
  no_ranks_of n r = of_row (RouteRow r) (unranked t cert class n) ++ flat_map (λ l. of_row (RouteRow r) (unranked_over t cert class n l)) r.links

  abbrev pub no_ranks : ℕ → ℕ → List Refused
  no_ranks home n = if n == home then [] else option_map_or (no_ranks_of n) (route t n class) []

  -- each link whose other end has no lesser rank
  abbrev pub not_less_of : ℕ → Route → List Refused
  not_less_of n r = flat_map (λ l. of_row (RouteRow r) (not_less_over t cert class n l)) r.links

  abbrev pub not_less : ℕ → ℕ → List Refused
  not_less home n = if n == home then [] else option_map_or (not_less_of n) (route t n class) []

  -- the stand-in row of a node that isn't named
  abbrev pub unnamed : List ℕ → ℕ → List Refused
  unnamed named n = option_map_or (λ s. of_row (StandInRow s) (not_named t cert class named n)) (stand_in t n class) []

  -- the issuer whose ceiling is too low
  abbrev pub too_much : Issuer → List Refused
  too_much i = of_row (IssuerRow i) (over_ceiling t cert class i.ceiling)

  -- the node's route row of just this prefix
  abbrev pub own_route : ℕ → List Refused
  own_route n = option_map_or (λ r. of_row (RouteRow r) (Some (NoIssuer n class))) (own_row (λ (r : Route). r.node) (λ (r : Route). r.prefix) t.routes n class) []

  -- and its stand-in row
  abbrev pub own_stand_in : ℕ → List Refused
  own_stand_in n = option_map_or (λ s. of_row (StandInRow s) (Some (NoIssuer n class))) (own_row (λ (s : StandIn). s.node) (λ (s : StandIn). s.prefix) t.stand_ins n class) []

  abbrev pub without_issuer : ℕ → List Refused
  without_issuer n = own_route n ++ own_stand_in n

  -- where a rule is broken at a class with this issuer or none, node by node
  abbrev pub rule_refusals : Rule → Option Issuer → List Refused
  rule_refusals HasRanks (Some i) = each_below (no_ranks i.home) (length t.nodes)
  rule_refusals RanksFall (Some i) = each_below (not_less i.home) (length t.nodes)
  rule_refusals IsNamed (Some i) = each_below (unnamed i.named) (length t.nodes)
  rule_refusals IsWithinCeiling (Some i) = too_much i
  rule_refusals HasIssuer None = each_below without_issuer (length t.nodes)
  rule_refusals _ _ = []

module _ (t : Network) (cert : List Rank) where
  abbrev pub refusals_at : Rule → List ℕ → List Refused
  refusals_at rule class = rule_refusals t cert class rule (issuer t class)

  -- where it is broken, class by class
  abbrev pub of_rule : Rule → List Refused
  of_rule rule = flat_map (refusals_at rule) (classes t)

-- the refusal of a text that stands behind an equal one
abbrev pub again : (List ℕ → Refusal) → List (List ℕ) → List ℕ → Option Refusal
again refusal before x = if list_any (λ y. pointwise ◌==◌ y x) before then Some (refusal x) else None

-- those of all such texts, each with its place
abbrev pub repeated : (List ℕ → Refusal) → (ℕ → Row) → List (List ℕ) → List (List ℕ) → List Refused
repeated refusal row before [] = []
repeated refusal row before (x ∷ xs) = of_row (row (length before)) (again refusal before x) ++ repeated refusal row (before ++ x ∷ []) xs

-- each acquirer behind another with the same padded id
abbrev pub acquirers_twice : Network → List Refused
acquirers_twice t = repeated AcquirerTwice AcquirerAt [] (map (λ a. pad11 a.id) t.acquirers)

-- each node behind another with the same padded id
abbrev pub node_ids_twice : Network → List Refused
node_ids_twice t = repeated NodeIdTwice NodeAt [] (map (λ n. pad11 n.id) t.nodes)

-- the refusal of a link whose timer runs for more than 4,000 ticks
abbrev pub too_long : Link → ℕ → Option Refusal
too_long l place = if nat_lt 4000 l.ticks then Some (TimerTooLong place) else None

-- those of all such links, counted from this place on
abbrev pub long_from : ℕ → List Link → List Refused
long_from place [] = []
long_from place (l ∷ ls) = of_row (LinkAt place) (too_long l place) ++ long_from (place + 1) ls

-- by rule, by class, by node and by link, and then those of ids and timers
abbrev pub all_refusals : Network → List Rank → List Refused
all_refusals t cert = flat_map (of_rule t cert) class_rules ++ acquirers_twice t ++ node_ids_twice t ++ long_from 0 t.links

-- the first refusal
abbrev pub first : List Refused → Option Refusal
first [] = None
first (r ∷ rs) = Some r.refusal

abbrev pub first_found : List RowRefusal → Option Refusal
first_found [] = None
first_found (r ∷ rs) = Some r.refusal
