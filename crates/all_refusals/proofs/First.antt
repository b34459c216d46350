-- The first of all refusals is the one that is sought.
use Rattle.std.proofs.Common.{◌≡◌, ℕ, zero, suc, ◌+◌, ◌==◌, ◌&&◌, ◌||◌, nat_lt, Bool, true, false, cond, List, [], ◌∷◌, ◌++◌, length, map, Option, Some, None, is_some, refl, sym, ap, ◌∙◌, inl, inr, arith}
use Rattle.std.specs.Prelude.{option_and_then, option_map, slice_get}
use Rattle.std.specs.List.{flat_map, list_any, find, position_from}
use Rattle.std.specs.Option.{option_map_or, option_or}
use Rattle.std.specs.Cmp.Lexicographic.{pointwise}
use Rattle.std.proofs.lemmas.Bool.{cases_Bool}
use Rattle.card_digits.specs.Numbers.{pad11}
use Rattle.net_rows.specs.Network.{Network, classes, issuer, route, stand_in}
use Rattle.net_rows.specs.declared.row.Issuer.{Issuer}
use Rattle.net_rows.specs.declared.row.Link.{Link}
use Rattle.net_rows.specs.declared.row.Route.{Route}
use Rattle.net_rows.specs.declared.row.StandIn.{StandIn}
use Rattle.rank_rows.specs.declared.rank.Rank.{Rank}
use Rattle.table_checker.specs.declared.refusal.Refusal.{Refusal}
use Rattle.table_checker.specs.declared.refusal.Refusal.TheVariants.{NoIssuer, AcquirerTwice, NodeIdTwice, TimerTooLong}
use Rattle.table_checker.specs.Search.{first_some, first_below}
use Rattle.table_checker.specs.Rules as rules
use Rattle.all_refusals.specs.declared.row.RowRefusal.{RowRefusal}
use Rattle.all_refusals.specs.Rows.{Row, RouteRow, StandInRow, IssuerRow, AcquirerAt, NodeAt, Refused, shown}
use Rattle.all_refusals.proofs.Adding.{behind}
use Rattle.all_refusals.specs.Found.{each_below, of_row, no_ranks_of, no_ranks, not_less_of, not_less, unnamed, own_route, own_stand_in, without_issuer, rule_refusals, refusals_at, of_rule, Rule, HasRanks, RanksFall, IsNamed, IsWithinCeiling, HasIssuer, class_rules, repeated, acquirers_twice, node_ids_twice, long_from, all_refusals, first, first_found}

first_append : (xs ys : List Refused) → first (xs ++ ys) ≡ option_or (first xs) (first ys)
first_append [] ys = refl
first_append (x ∷ xs) ys = refl

first_of_row : (row : Row) (o : Option Refusal) → first (of_row row o) ≡ o
first_of_row row None = refl
first_of_row row (Some r) = refl

first_flat : {A : Type 0} (f : A → List Refused) (g : A → Option Refusal) → ((x : A) → first (f x) ≡ g x) → (xs : List A) → first (flat_map f xs) ≡ first_some g xs
first_flat f g same [] = refl
first_flat f g same (x ∷ xs) = rw (first_append (f x) (flat_map f xs), same x, first_flat f g same xs) refl

first_each : (f : ℕ → List Refused) (g : ℕ → Option Refusal) → ((n : ℕ) → first (f n) ≡ g n) → (n : ℕ) → first (each_below f n) ≡ first_below g n
first_each f g same zero = refl
first_each f g same (suc n) = rw (first_append (each_below f n) (f n), first_each f g same n, same n) refl

-- a refusal of a row, if there is the row
if_some : {R : Type 0} (row_of : R → Row) (x : Refusal) (o : Option R) → first (option_map_or (λ r. of_row (row_of r) (Some x)) o []) ≡ cond (is_some o) (Some x) None
if_some row_of x None = refl
if_some row_of x (Some r) = refl

either : (x : Refusal) (a b : Bool) → option_or (cond a (Some x) None) (cond b (Some x) None) ≡ cond (a || b) (Some x) None
either x true b = refl
either x false true = refl
either x false false = refl

is_found : {R : Type 0} (test : R → Bool) (rows : List R) → is_some (find test rows) ≡ list_any test rows
is_found test [] = refl
is_found test (r ∷ rows) = elim (cases_Bool (test r)) [
  | inl is ↦ rw is refl
  | inr not' ↦ rw not' (is_found test rows)
]

module _ (t : Network) (cert : List Rank) (class : List ℕ) where
  first_no_rank : (home n : ℕ) → first (no_ranks t cert class home n) ≡ rules.no_rank t cert class home n
  first_no_rank home n = elim (cases_Bool (n == home)) [
    | inl is ↦ rw is refl
    | inr not' ↦ rw not' (along (route t n class))
  ]
    where
      along : (o : Option Route) → first (option_map_or (no_ranks_of t cert class n) o []) ≡ option_and_then (λ r. option_or (rules.unranked t cert class n) (first_some (rules.unranked_over t cert class n) r.links)) o
      along None = refl
      along (Some r) =
          let far = first_flat (λ l. of_row (RouteRow r) (rules.unranked_over t cert class n l)) (rules.unranked_over t cert class n) (λ l. first_of_row (RouteRow r) (rules.unranked_over t cert class n l)) r.links in
          rw (first_append (of_row (RouteRow r) (rules.unranked t cert class n)) (flat_map (λ l. of_row (RouteRow r) (rules.unranked_over t cert class n l)) r.links), first_of_row (RouteRow r) (rules.unranked t cert class n), far) refl

  first_not_less : (home n : ℕ) → first (not_less t cert class home n) ≡ rules.not_less t cert class home n
  first_not_less home n = elim (cases_Bool (n == home)) [
    | inl is ↦ rw is refl
    | inr not' ↦ rw not' (along (route t n class))
  ]
    where
      along : (o : Option Route) → first (option_map_or (not_less_of t cert class n) o []) ≡ option_and_then (λ r. first_some (rules.not_less_over t cert class n) r.links) o
      along None = refl
      along (Some r) = first_flat (λ l. of_row (RouteRow r) (rules.not_less_over t cert class n l)) (rules.not_less_over t cert class n) (λ l. first_of_row (RouteRow r) (rules.not_less_over t cert class n l)) r.links

  first_unnamed : (named : List ℕ) (n : ℕ) → first (unnamed t cert class named n) ≡ rules.not_named t cert class named n
  first_unnamed named n = by_row (stand_in t n class) refl
    where
      by_row : (o : Option StandIn) → stand_in t n class ≡ o → first (unnamed t cert class named n) ≡ rules.not_named t cert class named n
      by_row None e = rw e refl
      by_row (Some s) e = rw e (first_of_row (StandInRow s) _)

  first_without : (n : ℕ) → first (without_issuer t cert class n) ≡ rules.no_issuer t cert class n
  first_without n =
      let is_route = λ (r : Route). (r.node == n) && pointwise ◌==◌ r.prefix class in
      let is_stand_in = λ (s : StandIn). (s.node == n) && pointwise ◌==◌ s.prefix class in
      first_append (own_route t cert class n) (own_stand_in t cert class n)
      ∙ (rw (if_some RouteRow (NoIssuer n class) (find is_route t.routes), if_some StandInRow (NoIssuer n class) (find is_stand_in t.stand_ins), is_found is_route t.routes, is_found is_stand_in t.stand_ins)
      (either (NoIssuer n class) (list_any is_route t.routes) (list_any is_stand_in t.stand_ins)))

  ranks_at_class : (o : Option Issuer) → first (rule_refusals t cert class HasRanks o) ≡ option_and_then (λ i. first_below (rules.no_rank t cert class i.home) (length t.nodes)) o
  ranks_at_class None = refl
  ranks_at_class (Some i) = first_each (no_ranks t cert class i.home) (rules.no_rank t cert class i.home) (first_no_rank i.home) (length t.nodes)

  falling_at_class : (o : Option Issuer) → first (rule_refusals t cert class RanksFall o) ≡ option_and_then (λ i. first_below (rules.not_less t cert class i.home) (length t.nodes)) o
  falling_at_class None = refl
  falling_at_class (Some i) = first_each (not_less t cert class i.home) (rules.not_less t cert class i.home) (first_not_less i.home) (length t.nodes)

  named_at_class : (o : Option Issuer) → first (rule_refusals t cert class IsNamed o) ≡ option_and_then (λ i. first_below (rules.not_named t cert class i.named) (length t.nodes)) o
  named_at_class None = refl
  named_at_class (Some i) = first_each (unnamed t cert class i.named) (rules.not_named t cert class i.named) (first_unnamed i.named) (length t.nodes)

  within_at_class : (o : Option Issuer) → first (rule_refusals t cert class IsWithinCeiling o) ≡ option_and_then (λ i. rules.over_ceiling t cert class i.ceiling) o
  within_at_class None = refl
  within_at_class (Some i) = first_of_row (IssuerRow i) (rules.over_ceiling t cert class i.ceiling)

  issuer_at_class : (r : Option Refusal) → (issuer t class ≡ None → first_below (rules.no_issuer t cert class) (length t.nodes) ≡ r) → ((i : Issuer) → issuer t class ≡ Some i → None ≡ r) → first (refusals_at t cert HasIssuer class) ≡ r
  issuer_at_class r without with_one = by_issuer (issuer t class) refl
    where
      by_issuer : (o : Option Issuer) → issuer t class ≡ o → first (refusals_at t cert HasIssuer class) ≡ r
      by_issuer None e = rw e (first_each (without_issuer t cert class) (rules.no_issuer t cert class) first_without (length t.nodes) ∙ without e)
      by_issuer (Some i) e = rw e (with_one i e)

-- what belongs to one of some
abbrev of_one : {K : Type 0} → (K → Option Refusal) → List K → ℕ → Option Refusal
of_one g ks i = option_and_then g (slice_get ks i)

-- the first of five lists
first_of_five : {K : Type 0} (f : Rule → List Refused) (g : K → Option Refusal) (ks : List K) → length ks ≡ 5
    → first (f HasRanks) ≡ of_one g ks 0 → first (f RanksFall) ≡ of_one g ks 1 → first (f IsNamed) ≡ of_one g ks 2 → first (f IsWithinCeiling) ≡ of_one g ks 3 → first (f HasIssuer) ≡ of_one g ks 4
    → first (flat_map f class_rules) ≡ first_some g ks
first_of_five f g [] five ia ib ic id ie = absurd (omega arith)
first_of_five f g (a ∷ []) five ia ib ic id ie = absurd (omega arith)
first_of_five f g (a ∷ b ∷ []) five ia ib ic id ie = absurd (omega arith)
first_of_five f g (a ∷ b ∷ c ∷ []) five ia ib ic id ie = absurd (omega arith)
first_of_five f g (a ∷ b ∷ c ∷ d ∷ []) five ia ib ic id ie = absurd (omega arith)
first_of_five f g (a ∷ b ∷ c ∷ d ∷ e ∷ []) five ia ib ic id ie =
    rw (
      first_append (f HasRanks) (flat_map f (RanksFall ∷ IsNamed ∷ IsWithinCeiling ∷ HasIssuer ∷ [])),
      first_append (f RanksFall) (flat_map f (IsNamed ∷ IsWithinCeiling ∷ HasIssuer ∷ [])),
      first_append (f IsNamed) (flat_map f (IsWithinCeiling ∷ HasIssuer ∷ [])),
      first_append (f IsWithinCeiling) (flat_map f (HasIssuer ∷ [])),
      first_append (f HasIssuer) [],
      ia,
      ib,
      ic,
      id,
      ie,
    ) refl
first_of_five f g (a ∷ b ∷ c ∷ d ∷ e ∷ k ∷ ks) five ia ib ic id ie = absurd (omega arith)

first_repeated : (refusal : List ℕ → Refusal) (row : ℕ → Row) (before xs : List (List ℕ)) → first (repeated refusal row before xs) ≡ option_map refusal (rules.repeated_behind before xs)
first_repeated refusal row before [] = refl
first_repeated refusal row before (x ∷ xs) = elim (cases_Bool (list_any (λ y. pointwise ◌==◌ y x) before)) [
  | inl is ↦ rw is refl
  | inr not' ↦ rw not' (first_repeated refusal row (before ++ x ∷ []) xs)
]

first_long : (place : ℕ) (links : List Link) → first (long_from place links) ≡ option_map TimerTooLong (position_from (λ l. nat_lt 4000 l.ticks) place links)
first_long place [] = refl
first_long place (l ∷ ls) = elim (cases_Bool (nat_lt 4000 l.ticks)) [
  | inl is ↦ rw is refl
  | inr not' ↦ rw not' (first_long (place + 1) ls)
]

first_by_class : (t : Network) (cert : List Rank) → first (flat_map (of_rule t cert) class_rules) ≡ first_some (rules.first_of_kind t cert) rules.kinds
first_by_class t cert =
    let last : List ℕ → Option Issuer → Option Refusal = λ class o. option_and_then (λ k. rules.kind_refusal t cert class k o) (slice_get rules.kinds 4) in
    first_of_five (of_rule t cert) (rules.first_of_kind t cert) rules.kinds refl
    (first_flat (refusals_at t cert HasRanks) _ (λ class. ranks_at_class t cert class (issuer t class)) (classes t))
    (first_flat (refusals_at t cert RanksFall) _ (λ class. falling_at_class t cert class (issuer t class)) (classes t))
    (first_flat (refusals_at t cert IsNamed) _ (λ class. named_at_class t cert class (issuer t class)) (classes t))
    (first_flat (refusals_at t cert IsWithinCeiling) _ (λ class. within_at_class t cert class (issuer t class)) (classes t))
    (first_flat (refusals_at t cert HasIssuer) (λ class. last class (issuer t class)) (λ class. issuer_at_class t cert class (last class (issuer t class)) (λ e. sym (ap (last class) e)) (λ i e. sym (ap (last class) e))) (classes t))

pub first_is : (t : Network) (cert : List Rank) → first (all_refusals t cert) ≡ rules.first_refusal t cert
first_is t cert =
    let rest : first (acquirers_twice t ++ (node_ids_twice t ++ long_from 0 t.links)) ≡ option_or (rules.acquirer_twice t) (option_or (rules.node_id_twice t) (rules.timer_too_long t)) =
    rw (
      first_append (acquirers_twice t) (node_ids_twice t ++ long_from 0 t.links),
      first_append (node_ids_twice t) (long_from 0 t.links),
      first_repeated AcquirerTwice AcquirerAt [] (map (λ a. pad11 a.id) t.acquirers),
      first_repeated NodeIdTwice NodeAt [] (map (λ n. pad11 n.id) t.nodes),
      first_long 0 t.links,
    ) refl in
    let both : option_or (first (flat_map (of_rule t cert) class_rules)) (first (acquirers_twice t ++ (node_ids_twice t ++ long_from 0 t.links))) ≡ rules.first_refusal t cert =
    rw (first_by_class t cert, rest) refl in
    let whole : all_refusals t cert ≡ flat_map (of_rule t cert) class_rules ++ (acquirers_twice t ++ (node_ids_twice t ++ long_from 0 t.links)) =
    behind (flat_map (of_rule t cert) class_rules) (acquirers_twice t) (node_ids_twice t) (long_from 0 t.links) in
    ap first whole ∙ first_append (flat_map (of_rule t cert) class_rules) (acquirers_twice t ++ (node_ids_twice t ++ long_from 0 t.links)) ∙ both

-- of those that were found, too
pub first_shown : (t : Network) (found : List RowRefusal) → first (map (shown t) found) ≡ first_found found
first_shown t [] = refl
first_shown t (r ∷ rs) = refl

none_left : (xs : List Refused) → first xs ≡ None → xs ≡ []
none_left [] e = refl
none_left (x ∷ xs) e = absurd cc

-- where no first refusal is sought out, there is none
pub none_is : (t : Network) (cert : List Rank) → rules.first_refusal t cert ≡ None → all_refusals t cert ≡ []
none_is t cert none = none_left (all_refusals t cert) (first_is t cert ∙ none)

-- the first of those that were found, which are all
pub first_found_is : (t : Network) (cert : List Rank) (found : List RowRefusal) → map (shown t) found ≡ all_refusals t cert → first_found found ≡ rules.first_refusal t cert
first_found_is t cert found all = sym (first_shown t found) ∙ (rw all (first_is t cert))
