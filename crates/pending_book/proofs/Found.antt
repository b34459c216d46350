-- The places that are found are those of the requests that pass, in opening order.
use Rattle.std.proofs.Common.{◌≡◌, inl, inr, ℕ, suc, zero, ◌+◌, ◌<◌, ◌≤◌, Bool, true, false, ◌&&◌, ◌||◌, List, [], ◌∷◌, ◌++◌, length, map, filter_map, get_or, Option, Some, None, refl, sym, ap, ◌∙◌, arith, slice_get, eqb, eq-eqb}
use Rattle.std.specs.Prelude.{cond, filter, is_some, IfOk, Result, Ok, Err, ◌==◌}
use Rattle.std.specs.List.{AllByRecursion, range_with_len}
use Rattle.std.specs.Option.{option_map, option_map_or}
use Rattle.std.specs.Cmp.Lexicographic.{pointwise}
use Rattle.std.proofs.lemmas.Bool.{cases_Bool, eqb-true}
use Rattle.network_law.specs.Traces.{is_link}
use Rattle.node_machine.specs.Lists.{Row, row_key, row_pending}
use Rattle.request_slots.specs.declared.wait.Wait.{Wait}
use Rattle.request_slots.specs.Waits as slots
use Rattle.request_slots.proofs.Located.{located}
use Rattle.request_slots.specs.Waits.{is_due, is_of, is_on, wait_at}
use Rattle.pending_book.specs.Waits.{WaitsView, is_over, waits_by}
use Rattle.pending_book.specs.Rows.{card_in, places_where, waits_of, waits_on}
use Rattle.pending_book.specs.NodeKept.{AreWaiting, HasWait, is_waiting}
use Rattle.pending_book.proofs.NodeWaiting.{and_both, and_first, and_last, wait_over}

same_bool : (a b : Bool) → (a ≡ true → b ≡ true) → (b ≡ true → a ≡ true) → a ≡ b
same_bool true b to from = sym (to refl)
same_bool false true to from = from refl
same_bool false false to from = refl

-- numbers of a range that pass one test pass the other
filter_same : (p q : ℕ → Bool) (a n : ℕ) → ((k : ℕ) → a ≤ k → k < a + n → p k ≡ q k) → filter p (range_with_len a n) ≡ filter q (range_with_len a n)
filter_same p q a zero same = refl
filter_same p q a (suc n) same = rw (same a (omega arith) (omega arith)) (ap (λ ks. cond (q a) (a ∷ ks) ks) (filter_same p q (a + 1) n (λ k le lt. same k (omega (arith, le)) (omega (arith, lt)))))

there : {X : Type 0} (xs : List X) (k : ℕ) → k < length xs → (x : X) × (slice_get xs k ≡ Some x)
there [] k lt = absurd (omega (arith, lt))
there (x ∷ xs) zero lt = (x, refl)
there (x ∷ xs) (suc k) lt = there xs k (omega (arith, lt))

-- waits that pass stand where requests pass
module _ (passes : Wait → Bool) (p : Row → Bool) (rows : List Row) (waits : List (Option Wait)) (same_length : length waits ≡ length rows) (alike : (k : ℕ) (r : Row) → slice_get rows k ≡ Some r → option_map_or passes (wait_at waits k) false ≡ p r) where
  found : slots.places_where passes waits ≡ places_where p rows
  found =
      ap (λ n. filter (λ k. option_map_or passes (wait_at waits k) false) (range_with_len 0 n)) same_length
      ∙ filter_same (λ k. option_map_or passes (wait_at waits k) false) (λ k. option_map_or p (slice_get rows k) false) 0 (length rows)
      (λ k le lt. let r = there rows k (omega (arith, lt)) in alike k r.0 r.1 ∙ sym (ap (λ (o : Option Row). option_map_or p o false) r.1))

module _ (w : WaitsView) (count : ℕ) (timely : Bool) (rows : List Row) (waits : List (Option Wait)) (a : AreWaiting w count timely rows waits) where
  -- a request that waits passes by its wait, and another doesn't pass
  by_wait : (passes : Wait → Bool) (p : Row → Bool) (r : Row) (o : Option Wait) → HasWait w count timely r o → (p r ≡ true → is_waiting r ≡ true) → ((v : Wait) → is_waiting r ≡ true → v.link ≡ r.link → v.card ≡ card_in r.message → passes v ≡ p r)
      → option_map_or passes o false ≡ p r
  by_wait passes p r o h only same = elim (cases_Bool (is_waiting r)) [
    | inl t ↦ (let v = h.waits t in ap (λ (x : Option Wait). option_map_or passes x false) v.1 ∙ same v.0 t v.2 v.3)
    | inr f ↦ ap (λ (x : Option Wait). option_map_or passes x false) (h.rests f) ∙ sym (no (p r) (λ t. absurd (let e : true ≡ false = sym (only t) ∙ f in differ e)))
  ]
    where
      differ : true ≡ false → ⊥
      differ e = cc

      no : (b : Bool) → (b ≡ true → ⊥) → b ≡ false
      no true n = absurd (n refl)
      no false n = refl

  pub link_found : (l : ℕ) → slots.places_where (is_on l) waits ≡ places_where (waits_on l) rows
  link_found l = found (is_on l) (waits_on l) rows waits a.places (λ k r e. by_wait (is_on l) (waits_on l) r (wait_at waits k) (a.each k r e) (only r) (same r))
    where
      linked : (r : Row) (link : Option ℕ) → is_link l link ≡ true → (is_some link || r.asked) ≡ true
      linked r None t = absurd cc
      linked r (Some k) t = refl

      only : (r : Row) → waits_on l r ≡ true → is_waiting r ≡ true
      only r t = and_both (row_pending r) (is_some r.link || r.asked) (and_first (row_pending r) (is_link l r.link) t) (linked r r.link (and_last (row_pending r) (is_link l r.link) t))

      on : (link : Option ℕ) → option_map_or (λ own. eqb own l) link false ≡ is_link l link
      on None = refl
      on (Some k) = refl

      same : (r : Row) (v : Wait) → is_waiting r ≡ true → v.link ≡ r.link → v.card ≡ card_in r.message → is_on l v ≡ waits_on l r
      same r v t link card' = ap (λ (x : Option ℕ). option_map_or (λ own. eqb own l) x false) link ∙ (on r.link ∙ ap (λ b. b && is_link l r.link) (sym (and_first (row_pending r) (is_some r.link || r.asked) t)))

  pub card_found : (c : List ℕ) → slots.places_where (is_of c) waits ≡ places_where (waits_of c) rows
  card_found c = found (is_of c) (waits_of c) rows waits a.places (λ k r e. by_wait (is_of c) (waits_of c) r (wait_at waits k) (a.each k r e) (only r) (same r))
    where
      own_card : Row → Bool
      own_card r = option_map_or (λ own. pointwise ◌==◌ own c) (card_in r.message) false

      only : (r : Row) → waits_of c r ≡ true → is_waiting r ≡ true
      only r t = and_both (row_pending r) (is_some r.link || r.asked) (and_first (row_pending r) _ t) (and_first (is_some r.link || r.asked) (own_card r) (and_last (row_pending r) _ t))

      same : (r : Row) (v : Wait) → is_waiting r ≡ true → v.link ≡ r.link → v.card ≡ card_in r.message → is_of c v ≡ waits_of c r
      same r v t link card' =
          ap (λ (x : Option (List ℕ)). option_map_or (λ own. pointwise ◌==◌ own c) x false) card'
          ∙ (ap (λ b. b && own_card r) (sym (and_last (row_pending r) (is_some r.link || r.asked) t)) ∙ ap (λ b. b && ((is_some r.link || r.asked) && own_card r)) (sym (and_first (row_pending r) (is_some r.link || r.asked) t)))

  -- a request whose time is over is due, where the slots know of each
  over_wait : (r : Row) (o : Option Wait) → timely ≡ true → HasWait w count timely r o → is_over w (count + 1) r ≡ true → option_map_or (is_due (count + 1)) o false ≡ true
  over_wait r o known h t =
      let pending = and_first (row_pending r) _ t in
      let s = by r.link r.asked (and_last (row_pending r) _ t) in
      let v = h.waits (and_both (row_pending r) (is_some r.link || r.asked) pending s.0) in
      let sum : r.count + s.1.0 ≡ count + 1 = s.1.2 in
      let due : v.0.due ≡ Some (r.count + s.1.0) = v.4 known s.1.0 s.1.1 (omega (arith, sum)) in
      ap (λ (x : Option Wait). option_map_or (is_due (count + 1)) x false) v.1 ∙ (ap (λ (x : Option ℕ). option_map_or (λ n. eqb n (count + 1)) x false) due ∙ eq-eqb (r.count + s.1.0) (count + 1) sum)
    where
      by : (link : Option ℕ) (asked : Bool) → option_map_or (λ ticks. eqb (r.count + ticks) (count + 1)) (waits_by w link asked) false ≡ true
          → ((is_some link || asked) ≡ true) × ((ticks : ℕ) × (waits_by w link asked ≡ Some ticks) × (r.count + ticks ≡ count + 1))
      by (Some l) asked e = (refl, (get_or w.links l 0, refl, eqb-true (r.count + get_or w.links l 0) (count + 1) e))
      by None true e = (refl, (w.host, refl, eqb-true (r.count + w.host) (count + 1) e))
      by None false e = absurd cc

  pub due_found : timely ≡ true → slots.places_where (is_due (suc count)) waits ≡ places_where (is_over w (count + 1)) rows
  due_found known =
      let next : suc count ≡ count + 1 = omega arith in
      ap (λ n. slots.places_where (is_due n) waits) next
      ∙ found (is_due (count + 1)) (is_over w (count + 1)) rows waits a.places
      (λ k r e. same_bool (option_map_or (is_due (count + 1)) (wait_at waits k) false) (is_over w (count + 1) r) (wait_over w count timely r (wait_at waits k) (a.each k r e)) (over_wait r (wait_at waits k) known (a.each k r e)))

-- ---- one request after another

-- one number more
range_more : (p : ℕ → Bool) (a n : ℕ) → filter p (range_with_len a (suc n)) ≡ filter p (range_with_len a n) ++ cond (p (a + n)) ((a + n) ∷ []) []
range_more p a zero = (let same : a ≡ a + 0 = omega arith in ap (λ k. cond (p k) (k ∷ []) []) same)
range_more p a (suc n) =
    let rest = range_more p (a + 1) n in
    let same : a + 1 + n ≡ a + suc n = omega arith in
    let next : filter p (range_with_len (a + 1) (suc n)) ≡ filter p (range_with_len (a + 1) n) ++ cond (p (a + suc n)) ((a + suc n) ∷ []) [] = rest ∙ ap (λ k. filter p (range_with_len (a + 1) n) ++ cond (p k) (k ∷ []) []) same in
    elim (cases_Bool (p a)) [
      | inl t ↦ rw t (ap (λ ks. a ∷ ks) next)
      | inr f ↦ rw f next
    ]

pub one_more : (p : Row → Bool) (rows : List Row) (n : ℕ) (r : Row) → slice_get rows n ≡ Some r → filter (λ k. option_map_or p (slice_get rows k) false) (range_with_len 0 (n + 1)) ≡ filter (λ k. option_map_or p (slice_get rows k) false) (range_with_len 0 n) ++ cond (p r) (n ∷ []) []
one_more p rows n r e =
    let next : n + 1 ≡ suc n = omega arith in
    let zero_is : 0 + n ≡ n = omega arith in
    ap (λ m. filter (λ k. option_map_or p (slice_get rows k) false) (range_with_len 0 m)) next
    ∙ (range_more (λ k. option_map_or p (slice_get rows k) false) 0 n
    ∙ (ap (λ k. filter (λ j. option_map_or p (slice_get rows j) false) (range_with_len 0 n) ++ cond (option_map_or p (slice_get rows k) false) (k ∷ []) []) zero_is
    ∙ ap (λ (o : Option Row). filter (λ j. option_map_or p (slice_get rows j) false) (range_with_len 0 n) ++ cond (option_map_or p o false) (n ∷ []) []) e))

-- the same places, where some are found
pub if_same : {V E : Type 0} (items : V → List ℕ) (r : Result V E) {xs ys : List ℕ} → xs ≡ ys → IfOk r (λ v. items v ≡ xs) → IfOk r (λ v. items v ≡ ys)
if_same items (Ok v) same e = e ∙ same
if_same items (Err x) same e = tt

-- where the same requests pass, the same places are found
pub places_same : (p q : Row → Bool) (rows : List Row) → ((r : Row) → p r ≡ q r) → places_where p rows ≡ places_where q rows
places_same p q rows same = filter_same (λ k. option_map_or p (slice_get rows k) false) (λ k. option_map_or q (slice_get rows k) false) 0 (length rows) (λ k le lt. at (slice_get rows k))
  where
    at : (o : Option Row) → option_map_or p o false ≡ option_map_or q o false
    at None = refl
    at (Some r) = same r

-- each place is one of a request
pub places_there : (p : Row → Bool) (rows : List Row) → AllByRecursion (λ k. k < length rows) (places_where p rows)
places_there p rows = below 0 (length rows) (omega arith)
  where
    test : ℕ → Bool
    test j = option_map_or p (slice_get rows j) false

    below : (a n : ℕ) → a + n ≤ length rows → AllByRecursion (λ k. k < length rows) (filter test (range_with_len a n))
    below a zero le = tt
    below a (suc n) le = elim (cases_Bool (test a)) [
      | inl t ↦ rw t (omega (arith, le), below (a + 1) n (omega (arith, le)))
      | inr f ↦ rw f (below (a + 1) n (omega (arith, le)))
    ]

-- the keys at those places are those of the requests that pass
pub keys_found : (p : Row → Bool) (rows : List Row) → filter_map (λ place. option_map row_key (slice_get rows place)) (places_where p rows) ≡ map row_key (filter p rows)
keys_found p rows =
    located (λ k. option_map_or p (slice_get rows k) false) (λ k. option_map row_key (slice_get rows k)) p row_key rows 0
    (λ i r e. let zero_is : 0 + i ≡ i = omega arith in (
      ap (λ k. option_map_or p (slice_get rows k) false) zero_is ∙ ap (λ (o : Option Row). option_map_or p o false) e,
      ap (λ k. option_map row_key (slice_get rows k)) zero_is ∙ ap (option_map row_key) e,
    ))
