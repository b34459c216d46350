-- What codes of ranks say.
use Rattle.std.proofs.Common.{◌≡◌, ◌<◌, ℕ, zero, suc, List, [], ◌∷◌, true, Option, Some, None, nat_lt, refl, sym, ◌∙◌, ap, subst, ◌⊎◌, ◌==◌, ◌&&◌, ◌+◌, ◌≤◌, Bool, false, length, get_or, drop, inl, inr, arith}
use Rattle.std.specs.Prelude.{replicate, slice_get, slice_set, unwrap_or, option_and_then}
use Rattle.std.specs.List.{list_all}
use Rattle.std.specs.Option.{option_or}
use Rattle.std.proofs.lemmas.Bool.{and_parts, cases_Bool, ltb-true}
use Rattle.std.proofs.lemmas.Option.{same_Some}
use Rattle.std.proofs.lemmas.List.{drop_more}
use Rattle.net_rows.specs.Network.{Network, other_end, route}
use Rattle.net_rows.specs.declared.row.Route.{Route}
use Rattle.table_checker.specs.declared.known.Known.{Known}
use Rattle.table_checker.specs.declared.class.At.{At}
use Rattle.table_checker.specs.Ranks.{rank_at}
use Rattle.table_checker.specs.Search.{first_some}
use Rattle.table_checker.specs.Rules.{unranked, unranked_over, no_rank, not_less_over, not_less}
use Rattle.table_checker.proofs.Searching.{past_end}
use Rattle.table_checker.specs.Known.{AreKnown, AreFalling, IsCodeOf, IsKept, code_at, falls_by}

-- where nothing was looked up, no code says anything
pub nothing_known : (k n code : ℕ) → slice_get (replicate k 65537) n ≡ Some code → code ≡ 65537
nothing_known zero n code h = absurd cc
nothing_known (suc k) zero code h = cc
nothing_known (suc k) (suc n) code h = nothing_known k n code h

pub unknown_at : (o : Option ℕ) (n code : ℕ) → slice_get (replicate 64 65537) n ≡ Some code → IsCodeOf o code
unknown_at o n code h =
    let is = nothing_known 64 n code h in
    record { some = λ few. absurd (omega arith); none = λ same. absurd (omega arith) }

set_get : {A : Type 0} (codes : List A) (m : ℕ) (c : A) (n : ℕ) (code : A) → slice_get (slice_set codes m c) n ≡ Some code → ((m ≡ n) × (c ≡ code)) ⊎ (slice_get codes n ≡ Some code)
set_get [] m c n code h = inr h
set_get (x ∷ codes) zero c zero code h = inl (refl, same_Some c code h)
set_get (x ∷ codes) zero c (suc n) code h = inr h
set_get (x ∷ codes) (suc m) c zero code h = inr h
set_get (x ∷ codes) (suc m) c (suc n) code h = elim (set_get codes m c n code h) [
  | inl here ↦ inl (ap suc here.0, here.1)
  | inr there ↦ inr there
]

-- one more that is looked up
pub set_known : (at : At) (codes : List ℕ) (m c : ℕ) → AreKnown at codes → IsCodeOf (rank_at at.tables.now at.cert.now m at.class) c → AreKnown at (slice_set codes m c)
set_known at codes m c known says n code h = elim (set_get codes m c n code h) [
  | inl here ↦ rw (← here.0, ← here.1) says
  | inr there ↦ known n code there
]

-- one more route along which the ranks fall
pub set_falling : (t : Network) (codes : List ℕ) (falling : List (Option ℕ)) (m at : ℕ) (row : Route) → AreFalling t codes falling → slice_get t.routes at ≡ Some row → falls_by t codes m row.links ≡ true → AreFalling t codes (slice_set falling m (Some at))
set_falling t codes falling m at row before is falls n place r h there = elim (set_get falling m (Some at) n (Some place) h) [
  | inl here ↦
      let same : at ≡ place = same_Some at place here.1 in
      let one : row ≡ r = same_Some row r (sym is ∙ (rw (← same) at there)) in
      rw (← here.0, ← one) falls
  | inr other ↦ before n place r other there
]

-- and no route is known to fall
pub none_falling : {A : Type 0} (k n : ℕ) (place : A) → slice_get (replicate k None) n ≡ Some (Some place) → ⊥
none_falling zero n place h = absurd cc
none_falling (suc k) zero place h = absurd cc
none_falling (suc k) (suc n) place h = none_falling k n place h

-- what is known to fall hangs on no code that says nothing
code_apart : (codes : List ℕ) (m c n : ℕ) → code_at codes n < 65536 → 65536 ≤ code_at codes m → code_at (slice_set codes m c) n ≡ code_at codes n
code_apart [] m c n few many = refl
code_apart (x ∷ codes) zero c zero few many = absurd (omega arith)
code_apart (x ∷ codes) zero c (suc n) few many = refl
code_apart (x ∷ codes) (suc m) c zero few many = refl
code_apart (x ∷ codes) (suc m) c (suc n) few many = code_apart codes m c n few many

module _ (t : Network) (codes : List ℕ) (m c n : ℕ) (many : 65536 ≤ code_at codes m) (own : code_at codes n < 65536) where
  links_still : (links : List ℕ) → list_all (λ (l : ℕ). nat_lt (code_at codes (other_end t n l)) (code_at codes n)) links ≡ true
      → list_all (λ (l : ℕ). nat_lt (code_at (slice_set codes m c) (other_end t n l)) (code_at codes n)) links ≡ true
  links_still [] h = refl
  links_still (l ∷ links) h =
      let parts = and_parts _ _ h in
      let lt : code_at codes (other_end t n l) < code_at codes n = ltb-true _ _ parts.0 in
      rw (code_apart codes m c (other_end t n l) (omega arith) many, parts.0) (links_still links parts.1)

pub still_falls : (t : Network) (codes : List ℕ) (m c n : ℕ) (links : List ℕ) → 65536 ≤ code_at codes m → falls_by t codes n links ≡ true → falls_by t (slice_set codes m c) n links ≡ true
still_falls t codes m c n links many falls =
    let parts = and_parts _ _ falls in
    let own : code_at codes n < 65536 = ltb-true _ _ parts.0 in
    let rest = links_still t codes m c n many own links parts.1 in
    subst (λ (k : ℕ). (nat_lt k 65536 && list_all (λ (l : ℕ). nat_lt (code_at (slice_set codes m c) (other_end t n l)) k) links) ≡ true) (sym (code_apart codes m c n own many)) (rw parts.0 rest)

module _ (at : At) (codes : List ℕ) (known : AreKnown at codes) where
  rank_in : (n : ℕ) (o : Option ℕ) → slice_get codes n ≡ o → unwrap_or o 65537 < 65536 → rank_at at.tables.now at.cert.now n at.class ≡ Some (unwrap_or o 65537)
  rank_in n None is few = absurd (omega arith)
  rank_in n (Some code) is few = IsCodeOf.some (known n code is) few

  -- a code below that of no rank is the node's rank
  pub rank_is : (n : ℕ) → code_at codes n < 65536 → rank_at at.tables.now at.cert.now n at.class ≡ Some (code_at codes n)
  rank_is n few = rank_in n (slice_get codes n) refl few

  module _ (n : ℕ) (own : code_at codes n < 65536) where
    over_link : (l : ℕ) → nat_lt (code_at codes (other_end at.tables.now n l)) (code_at codes n) ≡ true
        → (unranked_over at.tables.now at.cert.now at.class n l ≡ None) × (not_less_over at.tables.now at.cert.now at.class n l ≡ None)
    over_link l less =
        let lt : code_at codes (other_end at.tables.now n l) < code_at codes n = ltb-true _ _ less in
        let far = rank_is (other_end at.tables.now n l) (omega arith) in
        let mine = rank_is n own in
        (rw far refl, rw (far, mine, less) refl)

    over_links : (links : List ℕ) → list_all (λ l. nat_lt (code_at codes (other_end at.tables.now n l)) (code_at codes n)) links ≡ true
        → (first_some (unranked_over at.tables.now at.cert.now at.class n) links ≡ None) × (first_some (not_less_over at.tables.now at.cert.now at.class n) links ≡ None)
    over_links [] less = (refl, refl)
    over_links (l ∷ links) less =
        let parts = and_parts _ _ less in
        let (unranked, not_less) = over_link l parts.0 in
        let (unranked_on, not_less_on) = over_links links parts.1 in
        (rw (unranked, unranked_on) refl, rw (not_less, not_less_on) refl)

  -- and the code of none that there is none
  none_in : (n : ℕ) (o : Option ℕ) → slice_get codes n ≡ o → unwrap_or o 65537 ≡ 65536 → rank_at at.tables.now at.cert.now n at.class ≡ None
  none_in n None is same = absurd (omega arith)
  none_in n (Some code) is same = IsCodeOf.none (known n code is) same

  pub none_is : (n : ℕ) → code_at codes n ≡ 65536 → rank_at at.tables.now at.cert.now n at.class ≡ None
  none_is n same = none_in n (slice_get codes n) refl same

  -- a route along which known ranks fall is refused by neither rule
  pub falling_no_rank : (n : ℕ) (links : List ℕ) → falls_by at.tables.now codes n links ≡ true
      → option_or (unranked at.tables.now at.cert.now at.class n) (first_some (unranked_over at.tables.now at.cert.now at.class n) links) ≡ None
  falling_no_rank n links falls =
      let parts = and_parts _ _ falls in
      let own = ltb-true _ _ parts.0 in
      rw (rank_is n own, (over_links n own links parts.1).0) refl

  pub falling_not_less : (n : ℕ) (links : List ℕ) → falls_by at.tables.now codes n links ≡ true → first_some (not_less_over at.tables.now at.cert.now at.class n) links ≡ None
  falling_not_less n links falls =
      let parts = and_parts _ _ falls in
      (over_links n (ltb-true _ _ parts.0) links parts.1).1

-- nothing more is refused
pub nothing_more : {B : Type 0} (x o : Option B) → o ≡ None → x ≡ option_or x o
nothing_more None o e = sym e
nothing_more (Some y) o e = refl

-- what is refused at the row of a place
pub row_none : {A B : Type 0} (f : A → Option B) (o : Option A) (r : A) → o ≡ Some r → f r ≡ None → option_and_then f o ≡ None
row_none f o r is none = rw is none

module _ (at : At) (kept : Known) (is : IsKept at kept) (n place : ℕ) (falls : slice_get kept.falling n ≡ Some (Some place)) where
  kept_at : (o : Option Route) → slice_get at.tables.now.routes place ≡ o
      → (option_and_then (λ (r : Route). option_or (unranked at.tables.now at.cert.now at.class n) (first_some (unranked_over at.tables.now at.cert.now at.class n) r.links)) o ≡ None)
      × (option_and_then (λ (r : Route). first_some (not_less_over at.tables.now at.cert.now at.class n) r.links) o ≡ None)
  kept_at None there = (refl, refl)
  kept_at (Some r) there =
      let along = IsKept.falling is n place r falls there in
      (falling_no_rank at kept.ranks (IsKept.ranks is) n r.links along, falling_not_less at kept.ranks (IsKept.ranks is) n r.links along)

  -- a node whose route is known to fall is refused nothing
  pub kept_no_rank : (home : ℕ) → option_and_then (slice_get at.tables.now.routes) (Some place) ≡ route at.tables.now n at.class → no_rank at.tables.now at.cert.now at.class home n ≡ None
  kept_no_rank home row = elim (cases_Bool (n == home)) [
    | inl same ↦ rw same refl
    | inr other ↦ rw other (subst (λ (o : Option Route). option_and_then (λ (r : Route). option_or (unranked at.tables.now at.cert.now at.class n) (first_some (unranked_over at.tables.now at.cert.now at.class n) r.links)) o ≡ None) row (kept_at (slice_get at.tables.now.routes place) refl).0)
  ]

  pub kept_not_less : (home : ℕ) → option_and_then (slice_get at.tables.now.routes) (Some place) ≡ route at.tables.now n at.class → not_less at.tables.now at.cert.now at.class home n ≡ None
  kept_not_less home row = elim (cases_Bool (n == home)) [
    | inl same ↦ rw same refl
    | inr other ↦ rw other (subst (λ (o : Option Route). option_and_then (λ (r : Route). first_some (not_less_over at.tables.now at.cert.now at.class n) r.links) o ≡ None) row (kept_at (slice_get at.tables.now.routes place) refl).1)
  ]

-- a loop over all items
pub all_on : {A : Type 0} (f : A → Bool) (xs : List A) (i : ℕ) (x : A) → i < length xs → x ≡ get_or xs i x → f x ≡ true → list_all f (drop (i + 1) xs) ≡ list_all f (drop i xs)
all_on f xs i x lt is h = rw (drop_more xs i x, ← is, h) refl

pub all_off : {A : Type 0} (f : A → Bool) (xs : List A) (i : ℕ) (x : A) → i < length xs → x ≡ get_or xs i x → f x ≡ false → list_all f (drop i xs) ≡ false
all_off f xs i x lt is h = rw (drop_more xs i x, ← is, h) refl

pub all_end : {A : Type 0} (f : A → Bool) (xs : List A) (i : ℕ) → length xs ≤ i → list_all f (drop i xs) ≡ true
all_end f xs i le = rw (past_end xs i le) refl
