-- Ids that stand once, and places in a list.
use Rattle.std.proofs.Common.{◌≡◌, ℕ, zero, suc, ◌<◌, ◌+◌, ◌≤◌, ◌==◌, ◌&&◌, ◌||◌, Bool, true, false, List, [], ◌∷◌, ◌++◌, length, map, get_or, nat_lt, take, drop, Option, Some, None, option_map, slice_get, bytes_eq, refl, sym, ap, subst, ◌∙◌, inl, inr, arith}
use Rattle.std.specs.Prelude.{IfSome}
use Rattle.std.specs.Option.{option_map_or, option_or}
use Rattle.std.specs.List.{position_from, list_any, AllByRecursion}
use Rattle.std.specs.Cmp.Lexicographic.{pointwise}
use Rattle.std.proofs.lemmas.Bool.{cases_Bool, false≢true, eqb-true, ltb-false}
use Rattle.std.proofs.lemmas.List.{drop_more, take_more}
use Rattle.std.proofs.lemmas.Cmp.{nat_list_eq_equiv}
use Rattle.std.proofs.lemmas.List.Folds.{list_any-append}
use Rattle.card_digits.specs.Numbers.{pad11}
use Rattle.net_rows.specs.declared.row.Node.{Node}
use Rattle.net_rows.specs.declared.row.Link.{Link}
use Rattle.net_rows.specs.declared.row.Acquirer.{Acquirer}
use Rattle.net_rows.specs.Network.{Network}
use Rattle.net_rows.specs.Sound as rows
use Rattle.rank_rows.specs.declared.rank.Rank.{Rank}
use Rattle.network_law.specs.Checked.{IsChecked}
use Rattle.table_checker.specs.Rules.{repeated_behind, first_repeated, acquirer_twice, node_id_twice, timer_too_long, first_of_kind, first_refusal, kinds}
use Rattle.table_checker.specs.declared.refusal.Refusal.TheVariants.{AcquirerTwice, NodeIdTwice, TimerTooLong}
use Rattle.table_checker.specs.Search.{first_some}
use Rattle.table_checker.specs.Property.{HasShortTimers}
use Rattle.table_checker.proofs.Searching.{none_parts}

below_from : {K : Type 0} (t : K → Bool) (i : ℕ) (xs : List K) → IfSome (position_from t i xs) (λ n. n < i + length xs)
below_from t i [] = tt
below_from t i (x ∷ xs) = elim (cases_Bool (t x)) [
  | inl is_at ↦ rw is_at (omega arith)
  | inr no' ↦ rw no' (later (position_from t (i + 1) xs) (below_from t (i + 1) xs))
]
  where
    later : (o : Option ℕ) → IfSome o (λ n. n < i + 1 + length xs) → IfSome o (λ n. n < i + length (x ∷ xs))
    later None h = tt
    later (Some n) h = omega arith

-- a place is within the list
pub position_within : {K : Type 0} (t : K → Bool) (xs : List K) (n : ℕ) → Some n ≡ position_from t 0 xs → n < length xs
position_within t xs n is = plain (position_from t 0 xs) (sym is) (below_from t 0 xs)
  where
    plain : (o : Option ℕ) → o ≡ Some n → IfSome o (λ m. m < 0 + length xs) → n < length xs
    plain None e h = absurd cc
    plain (Some m) e h = let same : m ≡ n = cc in omega arith

-- where no place is found, no item passes
pub none_passes : {K : Type 0} (t : K → Bool) (i : ℕ) (xs : List K) → position_from t i xs ≡ None → AllByRecursion (λ x. t x ≡ false) xs
none_passes t i [] h = tt
none_passes t i (x ∷ xs) h = elim (cases_Bool (t x)) [
  | inl is_at ↦ absurd (let e : Some i ≡ None = rw is_at at h in cc)
  | inr no' ↦ (no', none_passes t (i + 1) xs (rw no' at h))
]

-- ---- texts of which none is repeated

-- no text is equal to one behind it
abbrev pub StandOnce : List (List ℕ) → Type 0
StandOnce [] = Unit {0}
StandOnce (x ∷ xs) = AllByRecursion (λ y. pointwise ◌==◌ x y ≡ false) xs × StandOnce xs

abbrev pub AreNew : List (List ℕ) → List (List ℕ) → Type 0
AreNew before xs = AllByRecursion (λ x. list_any (λ y. pointwise ◌==◌ y x) before ≡ false) xs

neither : (a b : Bool) → (a || (b || false)) ≡ false → (a ≡ false) × (b ≡ false)
neither true b h = absurd (false≢true (sym h))
neither false true h = absurd (false≢true (sym h))
neither false false h = (refl, refl)

pushed_apart : (before : List (List ℕ)) (x z : List ℕ) → list_any (λ y. pointwise ◌==◌ y z) (before ++ x ∷ []) ≡ false → (list_any (λ y. pointwise ◌==◌ y z) before ≡ false) × (pointwise ◌==◌ x z ≡ false)
pushed_apart before x z h = neither (list_any (λ y. pointwise ◌==◌ y z) before) (pointwise ◌==◌ x z) (sym (list_any-append (λ y. pointwise ◌==◌ y z) before (x ∷ [])) ∙ h)

parts : (before : List (List ℕ)) (x : List ℕ) (xs : List (List ℕ)) → AreNew (before ++ x ∷ []) xs → AreNew before xs × AllByRecursion (λ y. pointwise ◌==◌ x y ≡ false) xs
parts before x [] h = (tt, tt)
parts before x (z ∷ xs) h =
    let (old, own) = pushed_apart before x z h.0 in
    let (olds, owns) = parts before x xs h.1 in
    ((old, olds), (own, owns))

once_behind : (before xs : List (List ℕ)) → repeated_behind before xs ≡ None → AreNew before xs × StandOnce xs
once_behind before [] h = (tt, tt)
once_behind before (x ∷ xs) h = elim (cases_Bool (list_any (λ y. pointwise ◌==◌ y x) before)) [
  | inl found ↦ absurd (let e : Some x ≡ None = rw found at h in cc)
  | inr new ↦
      let (later, once) = once_behind (before ++ x ∷ []) xs (rw new at h) in
      let (olds, owns) = parts before x xs later in
      ((new, olds), (owns, once))
]

once : (xs : List (List ℕ)) → first_repeated xs ≡ None → StandOnce xs
once xs h = (once_behind [] xs h).1

unmapped : {A : Type 0} (f : List ℕ → A) (o : Option (List ℕ)) → option_map f o ≡ None → o ≡ None
unmapped f None h = refl
unmapped f (Some x) h = absurd cc

-- ---- an acquirer has one gate

and_false : (b : Bool) → (b && false) ≡ false
and_false true = refl
and_false false = refl

rest_apart : (id acquirer : List ℕ) (rows : List Acquirer) → AllByRecursion (λ y. pointwise ◌==◌ id y ≡ false) (map (λ a. pad11 a.id) rows) → bytes_eq id acquirer ≡ true → (m : ℕ)
    → list_any (λ r. (r.node == m) && bytes_eq (pad11 r.id) acquirer) rows ≡ false
rest_apart id acquirer [] h hit m = refl
rest_apart id acquirer (a ∷ rows) h hit m =
    let laws = nat_list_eq_equiv in
    let miss : bytes_eq (pad11 a.id) acquirer ≡ false = laws.symm (pad11 a.id) acquirer ∙ sym (laws.congr id acquirer (pad11 a.id) hit) ∙ h.0 in
    rw (miss, and_false (a.node == m)) (rest_apart id acquirer rows h.1 hit m)

first_hit : (b r : Bool) → r ≡ false → ((b && true) || r) ≡ true → b ≡ true
first_hit true r e h = refl
first_hit false r e h = absurd (false≢true (sym e ∙ h))

later_hit : (b r : Bool) → ((b && false) || r) ≡ true → r ≡ true
later_hit true r h = h
later_hit false r h = h

gates_single : (rows : List Acquirer) → StandOnce (map (λ a. pad11 a.id) rows) → (acquirer : List ℕ) (n m : ℕ) → list_any (λ r. (r.node == n) && bytes_eq (pad11 r.id) acquirer) rows ≡ true
    → list_any (λ r. (r.node == m) && bytes_eq (pad11 r.id) acquirer) rows ≡ true → n ≡ m
gates_single [] h acquirer n m at_n at_m = absurd (false≢true at_n)
gates_single (a ∷ rows) h acquirer n m at_n at_m = elim (cases_Bool (bytes_eq (pad11 a.id) acquirer)) [
  | inl hit ↦
      let is_n : a.node ≡ n = eqb-true a.node n (first_hit (a.node == n) _ (rest_apart (pad11 a.id) acquirer rows h.0 hit n) (rw hit at at_n)) in
      let is_m : a.node ≡ m = eqb-true a.node m (first_hit (a.node == m) _ (rest_apart (pad11 a.id) acquirer rows h.0 hit m) (rw hit at at_m)) in
      sym is_n ∙ is_m
  | inr miss ↦ gates_single rows h.1 acquirer n m (later_hit (a.node == n) _ (rw miss at at_n)) (later_hit (a.node == m) _ (rw miss at at_m))
]

-- ---- node ids are told apart, and none is all zeros

abbrev id_at : List Node → ℕ → List ℕ
id_at nodes n = option_map_or (λ k. k.id) (slice_get nodes n) []

not_there : (id : List ℕ) (nodes : List Node) → AllByRecursion (λ y. pointwise ◌==◌ id y ≡ false) (map (λ k. pad11 k.id) nodes) → (m : ℕ) → m < length nodes → id ≡ pad11 (id_at nodes m) → ⊥
not_there id [] h m lt e = absurd (omega arith)
not_there id (k ∷ nodes) h zero lt e =
    let same : pointwise ◌==◌ id (pad11 k.id) ≡ true = subst (λ (x : List ℕ). pointwise ◌==◌ id x ≡ true) e (nat_list_eq_equiv.refl id) in
    false≢true (sym h.0 ∙ same)
not_there id (k ∷ nodes) h (suc m) lt e = not_there id nodes h.1 m (omega arith) e

ids_single : (nodes : List Node) → StandOnce (map (λ k. pad11 k.id) nodes) → (n m : ℕ) → n < length nodes → m < length nodes → pad11 (id_at nodes n) ≡ pad11 (id_at nodes m) → n ≡ m
ids_single [] h n m ln lm e = absurd (omega arith)
ids_single (k ∷ nodes) h zero zero ln lm e = refl
ids_single (k ∷ nodes) h zero (suc m) ln lm e = absurd (not_there (pad11 k.id) nodes h.0 m (omega arith) e)
ids_single (k ∷ nodes) h (suc n) zero ln lm e = absurd (not_there (pad11 k.id) nodes h.0 n (omega arith) (sym e))
ids_single (k ∷ nodes) h (suc n) (suc m) ln lm e = ap (λ (i : ℕ). suc i) (ids_single nodes h.1 n m (omega arith) (omega arith) e)

-- ---- accepted tables

record OthersAreNone (t : Network) : Type 0 where
  acquirers : acquirer_twice t ≡ None
  nodes : node_id_twice t ≡ None
  timers : timer_too_long t ≡ None

others : (t : Network) (cert : List Rank) → first_refusal t cert ≡ None → OthersAreNone t
others t cert none =
    let (by_class, rest) = none_parts (first_some (first_of_kind t cert) kinds) (option_or (acquirer_twice t) (option_or (node_id_twice t) (timer_too_long t))) none in
    let (first, more) = none_parts (acquirer_twice t) (option_or (node_id_twice t) (timer_too_long t)) rest in
    let (second, third) = none_parts (node_id_twice t) (timer_too_long t) more in
    record { acquirers = first; nodes = second; timers = third }

pub checked : (t : Network) (cert : List Rank) → first_refusal t cert ≡ None → rows.IsSound t → IsChecked t
checked t cert none kept =
    let none_of = others t cert none in
    record {
      sound = kept;
      single_ids = ids_single t.nodes (once (map (λ k. pad11 k.id) t.nodes) (unmapped NodeIdTwice (first_repeated (map (λ k. pad11 k.id) t.nodes)) none_of.nodes));
      single_gates = gates_single t.acquirers (once (map (λ a. pad11 a.id) t.acquirers) (unmapped AcquirerTwice (first_repeated (map (λ a. pad11 a.id) t.acquirers)) none_of.acquirers));
    }

few_ticks : (links : List Link) → AllByRecursion (λ l. nat_lt 4000 l.ticks ≡ false) links → AllByRecursion (λ l. l.ticks ≤ 4000) links
few_ticks [] h = tt
few_ticks (l ∷ links) h = (ltb-false 4000 l.ticks h.0, few_ticks links h.1)

no_place : (o : Option ℕ) → option_map TimerTooLong o ≡ None → o ≡ None
no_place None h = refl
no_place (Some n) h = absurd cc

pub short_timers : (t : Network) (cert : List Rank) → first_refusal t cert ≡ None → HasShortTimers t
short_timers t cert none = few_ticks t.links (none_passes (λ l. nat_lt 4000 l.ticks) 0 t.links (no_place (position_from (λ l. nat_lt 4000 l.ticks) 0 t.links) (others t cert none).timers))

-- ---- the search for a repeated text

pub repeated_found : (xs : List (List ℕ)) (i : ℕ) (x : List ℕ) → i < length xs → x ≡ get_or xs i x → list_any (λ y. pointwise ◌==◌ y x) (take i xs) ≡ true → repeated_behind (take i xs) (drop i xs) ≡ Some x
repeated_found xs i x lt is h = rw (drop_more xs i x, ← is) (rw h refl)

pub repeated_on : (xs : List (List ℕ)) (i : ℕ) (x : List ℕ) → i < length xs → x ≡ get_or xs i x → list_any (λ y. pointwise ◌==◌ y x) (take i xs) ≡ false
    → repeated_behind (take (i + 1) xs) (drop (i + 1) xs) ≡ repeated_behind (take i xs) (drop i xs)
repeated_on xs i x lt is h = sym (rw (drop_more xs i x, ← is) (rw h (rw (take_more xs i x, ← is) refl)))
