-- The longest pair of a node's trie has the place of the longest row.
use Rattle.std.proofs.Common.{◌≡◌, ℕ, zero, suc, ◌+◌, ◌<◌, ◌≤◌, Bool, true, false, ◌==◌, ◌⊎◌, List, [], ◌∷◌, ◌++◌, length, length-take, get_or, take, Option, Some, None, refl, sym, ap, ◌∙◌, inl, inr, arith}
use Rattle.std.specs.Prelude.{option_and_then, slice_get, is_some, unwrap_or, if◌then◌else◌}
use Rattle.std.specs.List.{filter, find, position_from, AllByRecursion}
use Rattle.std.specs.Option.{option_eq, option_or, option_map}
use Rattle.std.specs.Cmp.Lexicographic.{pointwise}
use Rattle.std.proofs.lemmas.Bool.{cases_Bool, and_parts, false≢true, cases_lt, eqb-true, eq-eqb}
use Rattle.std.proofs.lemmas.List.{take_more, set-get_or}
use Rattle.std.proofs.Math.Nat.{sub-zero}
use Rattle.std.proofs.Math.ListN.{set}
use Rattle.card_digits.specs.Digits.{IsPrefix}
use Rattle.card_digits.specs.Longest.{longest}
use Rattle.prefix_trie.specs.Pairs.{pair_of, inserted, prefix_of as pair_prefix}
use Rattle.prefix_trie.proofs.Longest.{NoFront, longest_of_front, whole_of}
use Rattle.std.specs.Cmp.Lexicographic.{same_text}
use Rattle.prefix_trie.proofs.Rows.{found_at, found_nowhere, pair_kept, pair_new}
use Rattle.net_rows.specs.declared.prefixed.RowKey.{RowKey}
use Rattle.net_rows.specs.Index.{is_of, slot, Places, places_at, IsIndexed}
use Rattle.net_rows.specs.Adding.{same_key, IsAdded}
use Rattle.net_rows.proofs.Fronts.{key, at_place, NoneBeyond, beyond_all, beyond_less, found_is_longest, none_is_longest}

-- where no pair has no digits, none begins no digits
none_of_none : (places : Places) → pair_of [] places ≡ None → longest pair_prefix places [] ≡ None
none_of_none [] h = refl
none_of_none (([], i) ∷ ps) h = absurd cc
none_of_none ((d ∷ p, i) ∷ ps) h = none_of_none ps h

module _ {R : Type 0} (g : R → Option ℕ) (f : R → List ℕ) (rows : List R) (tries : List Places) (n : Option ℕ) (c : List ℕ) (h : IsIndexed g f rows tries) where
  first_at : (a : List ℕ) → pair_of a (places_at tries n) ≡ option_map (λ i. (a, i)) (position_from (is_of g f (key n a)) 0 rows)
  first_at a = h.first (key n a)

  none_at : (a : List ℕ) → position_from (is_of g f (key n a)) 0 rows ≡ None → pair_of a (places_at tries n) ≡ None
  none_at a e = first_at a ∙ rw e refl

  some_at : (a : List ℕ) (i : ℕ) → position_from (is_of g f (key n a)) 0 rows ≡ Some i → pair_of a (places_at tries n) ≡ Some (a, i)
  some_at a i e = first_at a ∙ rw e refl

  no_digits : (rs : List R) (i : ℕ) → AllByRecursion (λ r. IsPrefix (f r)) rs → position_from (is_of g f (key n [])) i rs ≡ None
  no_digits [] i all = refl
  no_digits (r ∷ rs) i all = rw (other r all.0.not_short) (no_digits rs (i + 1) all.1)
    where
      empty : (q : List ℕ) → 1 ≤ length q → pointwise ◌==◌ q [] ≡ false
      empty [] le = absurd (omega arith)
      empty (d ∷ q) le = refl

      other : (s : R) → 1 ≤ length (f s) → is_of g f (key n []) s ≡ false
      other s le = elim (cases_Bool (option_eq ◌==◌ (g s) n)) [
        | inl is ↦ rw (is, empty (f s) le) refl
        | inr no' ↦ rw no' refl
      ]

  found : (k i : ℕ) (s : Option R) → k ≤ length c → NoFront (places_at tries n) c k → NoneBeyond g f n c k rows → position_from (is_of g f (key n (take k c))) 0 rows ≡ Some i
      → find (is_of g f (key n (take k c))) rows ≡ s → slice_get rows i ≡ s → is_some s ≡ true
      → option_and_then (λ p. slice_get rows p.1) (longest pair_prefix (places_at tries n) c) ≡ longest f (filter (λ r. option_eq ◌==◌ (g r) n) rows) c
  found k i None le front beyond at is got some = absurd (false≢true some)
  found k i (Some s) le front beyond at is got some =
      let pair : longest pair_prefix (places_at tries n) c ≡ Some (take k c, i) = longest_of_front (places_at tries n) c k le front ∙ whole_of (places_at tries n) (take k c) (Some (take k c, i)) (some_at (take k c) i at) refl in
      rw pair (got ∙ sym (found_is_longest g f n c k rows s le is beyond))

  some_found : {A : Type 0} (t : A → Bool) (i : ℕ) (xs : List A) (k : ℕ) → position_from t i xs ≡ Some k → is_some (find t xs) ≡ true
  some_found t i [] k e = absurd cc
  some_found t i (x ∷ xs) k e = elim (cases_Bool (t x)) [
    | inl is ↦ rw is refl
    | inr no' ↦ rw no' (some_found t (i + 1) xs k (rw no' at e))
  ]

  less : (k : ℕ) → NoFront (places_at tries n) c (suc k) → pair_of (take (suc k) c) (places_at tries n) ≡ None → NoFront (places_at tries n) c k
  less k front none m lt le = elim (cases_lt (suc k) m) [
    | inl more ↦ front m more le
    | inr few ↦ let e : m ≡ suc k = omega arith in rw e none
  ]

  at_front : (k : ℕ) (o : Option ℕ) → suc k ≤ length c → NoFront (places_at tries n) c (suc k) → NoneBeyond g f n c (suc k) rows → position_from (is_of g f (key n (take (suc k) c))) 0 rows ≡ o
      → (NoFront (places_at tries n) c k → NoneBeyond g f n c k rows → option_and_then (λ p. slice_get rows p.1) (longest pair_prefix (places_at tries n) c) ≡ longest f (filter (λ r. option_eq ◌==◌ (g r) n) rows) c)
      → option_and_then (λ p. slice_get rows p.1) (longest pair_prefix (places_at tries n) c) ≡ longest f (filter (λ r. option_eq ◌==◌ (g r) n) rows) c
  at_front k None le front beyond at on =
      let more : suc k ≡ k + 1 = omega arith in
      on (less k front (none_at (take (suc k) c) at)) (beyond_less g f n c k rows (rw more at (found_nowhere (is_of g f (key n (take (suc k) c))) 0 rows at)) (rw more at beyond))
  at_front k (Some i) le front beyond at on =
      let t = is_of g f (key n (take (suc k) c)) in
      let got : slice_get rows i ≡ find t rows = rw (sub-zero i) at ((found_at t 0 rows i at).1) in
      found (suc k) i (find t rows) le front beyond at refl got (some_found t 0 rows i at)

  down : (k : ℕ) → k ≤ length c → NoFront (places_at tries n) c k → NoneBeyond g f n c k rows
      → option_and_then (λ p. slice_get rows p.1) (longest pair_prefix (places_at tries n) c) ≡ longest f (filter (λ r. option_eq ◌==◌ (g r) n) rows) c
  down zero le front beyond =
      let none : pair_of [] (places_at tries n) ≡ None = none_at [] (no_digits rows 0 h.prefixes) in
      let pair : longest pair_prefix (places_at tries n) c ≡ None = longest_of_front (places_at tries n) c 0 le front ∙ none_of_none (places_at tries n) none in
      rw pair (sym (none_is_longest g f n c rows h.prefixes beyond))
  down (suc k) le front beyond = at_front k (position_from (is_of g f (key n (take (suc k) c))) 0 rows) le front beyond refl (down k (omega arith))

  pub same_longest : option_and_then (λ p. slice_get rows p.1) (longest pair_prefix (places_at tries n) c) ≡ longest f (filter (λ r. option_eq ◌==◌ (g r) n) rows) c
  same_longest = down (length c) (omega arith) (λ m lt le. absurd (omega arith)) (beyond_all g f n c rows)

module _ {R : Type 0} (g : R → Option ℕ) (f : R → List ℕ) (rows : List R) (tries : List Places) (n : Option ℕ) (c : List ℕ) (h : IsIndexed g f rows tries) where
  in_places : (ps : Places) → places_at tries n ≡ ps → option_and_then (λ p. slice_get rows p.1) (longest pair_prefix ps c) ≡ longest f (filter (λ r. option_eq ◌==◌ (g r) n) rows) c
  in_places ps e = ap (λ qs. option_and_then (λ p. slice_get rows p.1) (longest pair_prefix qs c)) (sym e) ∙ same_longest g f rows tries n c h

  pub no_trie : slice_get tries (slot n) ≡ None → None ≡ longest f (filter (λ r. option_eq ◌==◌ (g r) n) rows) c
  no_trie e = in_places [] (ap (λ o. unwrap_or o []) e)

  pub in_trie : (ps : Places) → slice_get tries (slot n) ≡ Some ps → option_and_then (λ p. slice_get rows p.1) (longest pair_prefix ps c) ≡ longest f (filter (λ r. option_eq ◌==◌ (g r) n) rows) c
  in_trie ps e = in_places ps (ap (λ o. unwrap_or o []) e)

place_more : {A : Type 0} (t : A → Bool) (i : ℕ) (xs : List A) (y : A) → position_from t i (xs ++ y ∷ []) ≡ option_or (position_from t i xs) (if t y then Some (i + length xs) else None)
place_more t i [] y = let e : i + 0 ≡ i = omega arith in rw e refl
place_more t i (x ∷ xs) y = elim (cases_Bool (t x)) [
  | inl is ↦ rw is refl
  | inr no' ↦ let e : i + 1 + length xs ≡ i + suc (length xs) = omega arith in rw (no', ← e) (place_more t (i + 1) xs y)
]

all_more : {A : Type 0} (P : A → Type 0) (xs : List A) (y : A) → AllByRecursion P xs → P y → AllByRecursion P (xs ++ y ∷ [])
all_more P [] y all one = (one, tt)
all_more P (x ∷ xs) y all one = (all.0, all_more P xs y all.1 one)

map_or : {A B : Type 0} (m : A → B) (o : Option A) (b : Bool) (x : A) → option_map m (option_or o (if b then Some x else None)) ≡ option_or (option_map m o) (if b then Some (m x) else None)
map_or m (Some a) b x = refl
map_or m None true x = refl
map_or m None false x = refl

module _ {R : Type 0} (g : R → Option ℕ) (f : R → List ℕ) where
  pub indexed_none : IsIndexed g f [] []
  indexed_none = record { first = λ q. refl; prefixes = tt }

  -- a row more
  pub indexed_row : (rows : List R) (r : R) (old new : List Places) → IsIndexed g f rows old → IsPrefix (f r) → IsAdded (key (g r) (f r)) (length rows) old new → IsIndexed g f (rows ++ r ∷ []) new
  indexed_row rows r old new h form a = record {
    first = λ q. a.now q ∙ rw (h.first q) (sym (ap (option_map (λ i. (q.prefix, i))) (place_more (is_of g f q) 0 rows r) ∙ map_or (λ i. (q.prefix, i)) (position_from (is_of g f q) 0 rows) (same_key (key (g r) (f r)) q) (0 + length rows) ∙ count q));
    prefixes = all_more (λ s. IsPrefix (f s)) rows r h.prefixes form;
  }
    where
      count : (q : RowKey) → option_or {T = List ℕ × ℕ} (option_map (λ i. (q.prefix, i)) (position_from (is_of g f q) 0 rows)) (if same_key (key (g r) (f r)) q then Some (q.prefix, 0 + length rows) else None)
          ≡ option_or {T = List ℕ × ℕ} (option_map (λ i. (q.prefix, i)) (position_from (is_of g f q) 0 rows)) (if same_key (key (g r) (f r)) q then Some (q.prefix, length rows) else None)
      count q = let e : 0 + length rows ≡ length rows = omega arith in rw e refl

  pub indexed_next : (rows : List R) (i : ℕ) (r : R) (old new : List Places) → i < length rows → r ≡ get_or rows i r → IsIndexed g f (take i rows) old → IsPrefix (f r) → IsAdded (key (g r) (f r)) i old new
      → IsIndexed g f (take (i + 1) rows) new
  indexed_next rows i r old new lt is h form a =
      let more : take (i + 1) rows ≡ take i rows ++ r ∷ [] = take_more rows i r lt ∙ rw (← is) refl in
      let len : length (take i rows) ≡ i = rw length-take (omega arith) in
      rw more (indexed_row (take i rows) r old new h form (rw (← len) at a))

empty_past : (xs : List Places) (i : ℕ) → unwrap_or (slice_get (xs ++ [] ∷ []) i) [] ≡ unwrap_or (slice_get xs i) []
empty_past [] zero = refl
empty_past [] (suc i) = refl
empty_past (x ∷ xs) zero = refl
empty_past (x ∷ xs) (suc i) = empty_past xs i

-- a trie more without a pair
pub places_empty : (tries : List Places) (node : Option ℕ) → places_at (tries ++ [] ∷ []) node ≡ places_at tries node
places_empty tries node = empty_past tries (slot node)

set_here : (xs : List Places) (i : ℕ) (y : Places) → i < length xs → slice_get (set xs i y) i ≡ Some y
set_here [] i y lt = absurd (omega arith)
set_here (x ∷ xs) zero y lt = refl
set_here (x ∷ xs) (suc i) y lt = set_here xs i y (omega arith)

set_there : (xs : List Places) (i j : ℕ) (y : Places) → (j ≡ i → ⊥) → slice_get (set xs i y) j ≡ slice_get xs j
set_there [] i j y other = refl
set_there (x ∷ xs) zero zero y other = absurd (other refl)
set_there (x ∷ xs) zero (suc j) y other = refl
set_there (x ∷ xs) (suc i) zero y other = refl
set_there (x ∷ xs) (suc i) (suc j) y other = set_there xs i j y (λ e. other (ap suc e))

slot_same : (m n : Option ℕ) → option_eq ◌==◌ m n ≡ true → m ≡ n
slot_same None None e = refl
slot_same None (Some n) e = absurd (false≢true e)
slot_same (Some m) None e = absurd (false≢true e)
slot_same (Some m) (Some n) e = ap (λ k. Some k) (eqb-true m n e)

slot_other : (m n : Option ℕ) → option_eq ◌==◌ m n ≡ false → slot n ≡ slot m → ⊥
slot_other None None e s = false≢true (sym e)
slot_other None (Some n) e s = omega arith
slot_other (Some m) None e s = omega arith
slot_other (Some m) (Some n) e s = let same : m ≡ n = omega arith in false≢true (sym e ∙ eq-eqb m n same)

module _ (key : RowKey) (place : ℕ) (old mid : List Places) (same : (node : Option ℕ) → places_at mid node ≡ places_at old node) where
  option_or_none : (o : Option (List ℕ × ℕ)) → option_or o None ≡ o
  option_or_none None = refl
  option_or_none (Some x) = refl

  option_or_some : (o : Option (List ℕ × ℕ)) (b : Option (List ℕ × ℕ)) → is_some o ≡ true → option_or o b ≡ o
  option_or_some None b h = absurd (false≢true h)
  option_or_some (Some x) b h = refl

  -- where the key is there, nothing changes
  pub added_present : is_some (pair_of key.prefix (places_at mid key.node)) ≡ true → IsAdded key place old mid
  added_present there = record { now = λ q. present q (cases_Bool (same_key key q)) }
    where
      present : (q : RowKey) → (same_key key q ≡ true) ⊎ (same_key key q ≡ false) → pair_of q.prefix (places_at mid q.node) ≡ option_or (pair_of q.prefix (places_at old q.node)) (if same_key key q then Some (q.prefix, place) else None)
      present q (inr no') = rw (no', same q.node) (sym (option_or_none (pair_of q.prefix (places_at old q.node))))
      present q (inl is) =
          let (node, text) = and_parts (option_eq ◌==◌ key.node q.node) (pointwise ◌==◌ key.prefix q.prefix) is in
          let n : key.node ≡ q.node = slot_same key.node q.node node in
          let p : key.prefix ≡ q.prefix = same_text key.prefix q.prefix (sym text) in
          let here : is_some (pair_of q.prefix (places_at old q.node)) ≡ true = rw (same key.node, n, p) at there in
          ap (pair_of q.prefix) (same q.node) ∙ sym (option_or_some (pair_of q.prefix (places_at old q.node)) (if same_key key q then Some (q.prefix, place) else None) here)

  -- where it isn't, its trie has a pair more
  pub added_new : slot key.node < length mid → pair_of key.prefix (places_at mid key.node) ≡ None → IsAdded key place old (set mid (slot key.node) (inserted (key.prefix, place) (places_at mid key.node)))
  added_new lt none = record { now = λ q. changed q (cases_Bool (option_eq ◌==◌ key.node q.node)) }
    where
      new : List Places
      new = set mid (slot key.node) (inserted (key.prefix, place) (places_at mid key.node))

      Changed : RowKey → Type 0
      Changed q = pair_of q.prefix (places_at (set mid (slot key.node) (inserted (key.prefix, place) (places_at mid key.node))) q.node) ≡ option_or (pair_of q.prefix (places_at old q.node)) (if same_key key q then Some (q.prefix, place) else None)

      changed : (q : RowKey) → (option_eq ◌==◌ key.node q.node ≡ true) ⊎ (option_eq ◌==◌ key.node q.node ≡ false)
          → pair_of q.prefix (places_at (set mid (slot key.node) (inserted (key.prefix, place) (places_at mid key.node))) q.node) ≡ option_or (pair_of q.prefix (places_at old q.node)) (if same_key key q then Some (q.prefix, place) else None)
      changed q (inr no') =
          let kept : places_at (set mid (slot key.node) (inserted (key.prefix, place) (places_at mid key.node))) q.node ≡ places_at mid q.node
          = ap (λ o. unwrap_or o []) (set_there mid (slot key.node) (slot q.node) (inserted (key.prefix, place) (places_at mid key.node)) (slot_other key.node q.node no')) in
          rw (no', kept, same q.node) (sym (option_or_none (pair_of q.prefix (places_at old q.node))))
      changed q (inl node) =
          let n : key.node ≡ q.node = slot_same key.node q.node node in
          let here : places_at (set mid (slot key.node) (inserted (key.prefix, place) (places_at mid key.node))) q.node ≡ inserted (key.prefix, place) (places_at mid key.node)
          = rw (← n) (ap (λ o. unwrap_or o []) (set_here mid (slot key.node) (inserted (key.prefix, place) (places_at mid key.node)) lt)) in
          elim (cases_Bool (pointwise ◌==◌ key.prefix q.prefix)) [
            | inl text ↦
                let p : key.prefix ≡ q.prefix = same_text key.prefix q.prefix (sym text) in
                let gone : pair_of q.prefix (places_at old q.node) ≡ None = rw (same key.node, n, p) at none in
                let pair : pair_of q.prefix (inserted (key.prefix, place) (places_at mid key.node)) ≡ Some (key.prefix, place) = pair_new (key.prefix, place) q.prefix (places_at mid key.node) text (rw p at none) in
                ap (pair_of q.prefix) here ∙ pair ∙ rw (gone, node, text, p) refl
            | inr other ↦
                let kept : pair_of q.prefix (inserted (key.prefix, place) (places_at mid key.node)) ≡ pair_of q.prefix (places_at mid key.node) = pair_kept q.prefix (key.prefix, place) (places_at mid key.node) other in
                ap (pair_of q.prefix) here ∙ kept ∙ rw (node, other, same key.node, n) (sym (option_or_none (pair_of q.prefix (places_at old q.node))))
          ]

  where_it_is : (i : ℕ) (L : Places) → i ≡ slot key.node → i < length mid → L ≡ get_or mid i L → places_at mid key.node ≡ L
  where_it_is i L e lt at = ap (λ o. unwrap_or o []) (ap (slice_get mid) (sym e) ∙ sym (at_place mid i L lt at))

  pub added_at : (i : ℕ) (L new : Places) → i ≡ slot key.node → i < length mid → L ≡ get_or mid i L → new ≡ inserted (key.prefix, place) L → pair_of key.prefix L ≡ None → IsAdded key place old (set mid i new)
  added_at i L new e lt at is none =
      let here = where_it_is i L e lt at in
      rw (is, ← here, e) (added_new (rw e at lt) (rw (← here) at none))

  pub kept_at : (i : ℕ) (L new : Places) → i ≡ slot key.node → i < length mid → L ≡ get_or mid i L → new ≡ L → is_some (pair_of key.prefix L) ≡ true → IsAdded key place old (set mid i new)
  kept_at i L new e lt at is there =
      let here = where_it_is i L e lt at in
      let same-list : set mid i new ≡ mid = ap (set mid i) (is ∙ at) ∙ set-get_or mid i L in
      rw same-list (added_present (rw (← here) at there))
