-- The places that are found are those that pass, in opening order.
use Rattle.std.proofs.Common.{◌≡◌, ◌≢◌, inl, inr, ℕ, zero, suc, ◌+◌, ◌-◌, ◌<◌, ◌≤◌, Bool, true, false, List, [], ◌∷◌, length, get_or, Option, Some, None, refl, sym, ap, ◌∙◌, subst, arith, eqb, eq-eqb}
use Rattle.std.specs.Prelude.{filter, filter_map, if◌then◌else◌, ◌==◌}
use Rattle.std.specs.List.{AllPairs, Contains, cons_option, range_with_len}
use Rattle.std.specs.List.Sorted.{IsNonDecreasing, IsPermutation}
use Rattle.std.specs.Option.{option_map, option_map_or, option_and_then}
use Rattle.std.specs.Cmp.Lexicographic.{pointwise, same_text}
use Rattle.std.proofs.lemmas.Bool.{cases_Bool, cases_lt}
use Rattle.std.proofs.lemmas.List.{get_or_past}
use Rattle.std.proofs.lemmas.List.Sorted.{Contains-permutation, IsPermutation-sym}
use Rattle.std.proofs.lemmas.Map.Keys.{IsDistinct-IsPermutation}
use Rattle.std.proofs.lemmas.Map.Made.{AllPairs-from_IsDistinct, IsDistinct-from_AllPairs}
use Rattle.std.proofs.lemmas.Bool.{lt-ltb, le-ltb}
use Rattle.std.proofs.lemmas.Bool.Decides.{Decides-eqb, nat_tests}
use Rattle.slab.specs.Slab.{Slab, get}
use Rattle.chain_links.specs.Lists.{Among, Distinct, Each}
use Rattle.chain_links.proofs.Chains.{each_among}
use Rattle.chain_links.proofs.Popped.{each_from}
use Rattle.request_slots.specs.declared.wait.Wait.{Wait}
use Rattle.request_slots.specs.Waits.{is_due, is_of, is_on, places_where, wait_at, held_waits}
use Rattle.request_slots.specs.Kept.{AreHeld, AreListed, ahead_of, ending, place_if, place_in, slot_at}
use Rattle.request_slots.proofs.Listing.{no_wait}
use Rattle.request_slots.proofs.Lists.{same_test}
use Rattle.request_slots.proofs.Waiting.{at_in}

same_number : (x y : ℕ) → Some x ≡ Some y → x ≡ y
same_number x y e = cc

no_number : (x : ℕ) → Some x ≡ None → ⊥
no_number x e = cc

same_wait : (v w : Wait) → Some v ≡ Some w → v ≡ w
same_wait v w e = cc

-- ---- numbers that rise

-- each number is below all later ones
abbrev Rises : List ℕ → Type 0
Rises [] = Unit {0}
Rises (x ∷ xs) = Each (λ y. x < y) xs × Rises xs

among_of : (k : ℕ) (xs : List ℕ) → Contains xs k → Among k xs
among_of k [] c = absurd (omega (arith, c.1))
among_of k (x ∷ xs) (zero, lt, same) = inl (sym same)
among_of k (x ∷ xs) (suc i, lt, same) = inr (among_of k xs (i, omega (arith, lt), same))

of_among : (k : ℕ) (xs : List ℕ) → Among k xs → Contains xs k
of_among k [] m = absurd m
of_among k (x ∷ xs) m = elim m [
  | inl same ↦ (0, omega arith, sym same)
  | inr later ↦ (let c = of_among k xs later in (suc c.0, omega (arith, c.1), c.2))
]

-- numbers that rise are the same where the same are among them
rising_same : (xs ys : List ℕ) → Rises xs → Rises ys → ((k : ℕ) → Among k xs → Among k ys) → ((k : ℕ) → Among k ys → Among k xs) → xs ≡ ys
rising_same [] [] r s there back = refl
rising_same [] (y ∷ ys) r s there back = absurd (back y (inl refl))
rising_same (x ∷ xs) [] r s there back = absurd (there x (inl refl))
rising_same (x ∷ xs) (y ∷ ys) r s there back = rw (first, rising_same xs ys r.1 s.1 on_there on_back) refl
  where
    first : x ≡ y
    first = elim (there x (inl refl)) [
      | inl same ↦ same
      | inr later ↦ elim (back y (inl refl)) [
        | inl same ↦ sym same
        | inr other ↦ (let a = each_among (λ z. y < z) x ys s.0 later in let b = each_among (λ z. x < z) y xs r.0 other in absurd (omega (arith, a, b)))
      ]
    ]

    on_there : (k : ℕ) → Among k xs → Among k ys
    on_there k m = elim (there k (inr m)) [
      | inl same ↦ (let a = each_among (λ z. x < z) k xs r.0 m in let e = first in absurd (omega (arith, a, e, same)))
      | inr later ↦ later
    ]

    on_back : (k : ℕ) → Among k ys → Among k xs
    on_back k m = elim (back k (inr m)) [
      | inl same ↦ (let a = each_among (λ z. y < z) k ys s.0 m in let e = first in absurd (omega (arith, a, e, same)))
      | inr later ↦ later
    ]

-- sorted numbers that differ rise
rises : (xs : List ℕ) → IsNonDecreasing xs → Distinct xs → Rises xs
rises [] sorted d = tt
rises (x ∷ xs) sorted d = (
  each_from
      (λ y. x < y)
      xs
      (λ y m.
      let c = of_among y xs m in
      let ne = each_among (λ z. x ≢ z) y xs d.0 m in
      let le : x ≤ get_or xs c.0 y = sorted 0 (suc c.0) y (omega arith) (omega (arith, c.1)) in
      let is = c.2 in
      omega (arith, le, is, ne)),
  rises xs (λ i j e le lt. sorted (suc i) (suc j) e (omega (arith, le)) (omega (arith, lt))) d.1,
)

-- and so do those of a range that pass a test
module _ (p : ℕ → Bool) where
  among_range : (k a n : ℕ) → Among k (filter p (range_with_len a n)) → (a ≤ k) × (k < a + n) × (p k ≡ true)
  among_range k a zero m = absurd m
  among_range k a (suc n) m = elim (cases_Bool (p a)) [
    | inl t ↦ (
        let here : Among k (a ∷ filter p (range_with_len (a + 1) n)) = rw t at m in
        elim here [
          | inl same ↦ (omega (arith, same), omega (arith, same), ap p same ∙ t)
          | inr later ↦ (let r = among_range k (a + 1) n later in let x = r.0 in let y = r.1 in (omega (arith, x), omega (arith, y), r.2))
        ])
    | inr f ↦ (
        let there : Among k (filter p (range_with_len (a + 1) n)) = rw f at m in
        let r = among_range k (a + 1) n there in
        let x = r.0 in
        let y = r.1 in
        (omega (arith, x), omega (arith, y), r.2))
  ]

  range_among : (k a n : ℕ) → a ≤ k → k < a + n → p k ≡ true → Among k (filter p (range_with_len a n))
  range_among k a zero le lt t = absurd (omega (arith, le, lt))
  range_among k a (suc n) le lt t = elim (cases_lt a k) [
    | inl less ↦ (
        let later : Among k (filter p (range_with_len (a + 1) n)) = range_among k (a + 1) n (omega (arith, less)) (omega (arith, lt)) t in
        elim (cases_Bool (p a)) [
          | inl y ↦ rw y (inr later)
          | inr f ↦ rw f later
        ])
    | inr ge ↦ (
        let same : k ≡ a = omega (arith, le, ge) in
        let y : p a ≡ true = ap p (sym same) ∙ t in
        rw y (inl same))
  ]

  range_rises : (a n : ℕ) → Rises (filter p (range_with_len a n))
  range_rises a zero = tt
  range_rises a (suc n) = elim (cases_Bool (p a)) [
    | inl t ↦ rw t (each_from (λ y. a < y) (filter p (range_with_len (a + 1) n)) (λ y m. let r = among_range y (a + 1) n m in let x = r.0 in omega (arith, x)), range_rises (a + 1) n)
    | inr f ↦ rw f (range_rises (a + 1) n)
  ]

-- ---- two ways to say that numbers differ

pairs_of : (xs : List ℕ) → Distinct xs → AllPairs (λ x y. x ≢ y) xs
pairs_of [] d i j e lt less = absurd (omega (arith, less))
pairs_of (x ∷ xs) d zero zero e lt less = absurd (omega (arith, lt))
pairs_of (x ∷ xs) d zero (suc j) e lt less = each_among (λ z. x ≢ z) (get_or xs j e) xs d.0 (at_among xs j (omega (arith, less)))
  where
    at_among : (ys : List ℕ) (k : ℕ) → k < length ys → Among (get_or ys k e) ys
    at_among [] k short = absurd (omega (arith, short))
    at_among (y ∷ ys) zero short = inl refl
    at_among (y ∷ ys) (suc k) short = inr (at_among ys k (omega (arith, short)))
pairs_of (x ∷ xs) d (suc i) zero e lt less = absurd (omega (arith, lt))
pairs_of (x ∷ xs) d (suc i) (suc j) e lt less = pairs_of xs d.1 i j e (omega (arith, lt)) (omega (arith, less))

of_pairs : (xs : List ℕ) → AllPairs (λ x y. x ≢ y) xs → Distinct xs
of_pairs [] d = tt
of_pairs (x ∷ xs) d = (
  each_from
      (λ y. x ≢ y)
      xs
      (λ y m same.
      let c = of_among y xs m in
      d 0 (suc c.0) y (omega arith) (omega (arith, c.1)) (same ∙ sym c.2)),
  of_pairs xs (λ i j e lt less. d (suc i) (suc j) e (omega (arith, lt)) (omega (arith, less))),
)

flips : (x y : ℕ) → eqb x y ≡ eqb y x
flips x y = grind (arith, nat_tests)

-- numbers that differ do so in any order
distinct_moved : (xs ys : List ℕ) → IsPermutation xs ys → Distinct xs → Distinct ys
distinct_moved xs ys moved d = of_pairs ys (AllPairs-from_IsDistinct Decides-eqb ys (IsDistinct-IsPermutation eqb flips xs ys moved (IsDistinct-from_AllPairs Decides-eqb xs (pairs_of xs d))))

-- ---- what is found of some slots

among_found : (f : ℕ → Option ℕ) (k slot : ℕ) (slots : List ℕ) → Among slot slots → f slot ≡ Some k → Among k (filter_map f slots)
among_found f k slot [] m e = absurd m
among_found f k slot (s ∷ slots) m e = elim m [
  | inl same ↦ here (f s) (ap f (sym same) ∙ e)
  | inr later ↦ behind (f s) (among_found f k slot slots later e)
]
  where
    here : (o : Option ℕ) → o ≡ Some k → Among k (cons_option o (filter_map f slots))
    here None is = absurd (no_number k (sym is))
    here (Some y) is = inl (sym (same_number y k is))

    behind : (o : Option ℕ) → Among k (filter_map f slots) → Among k (cons_option o (filter_map f slots))
    behind None m = m
    behind (Some y) m = inr m

abbrev IsFound : (ℕ → Option ℕ) → ℕ → List ℕ → Type 0
IsFound f k slots = (slot : ℕ) × Among slot slots × (f slot ≡ Some k)

found_among : (f : ℕ → Option ℕ) (k : ℕ) (slots : List ℕ) → Among k (filter_map f slots) → IsFound f k slots
found_among f k [] m = absurd m
found_among f k (s ∷ slots) m = go (f s) refl (found_among f k slots) m
  where
    go : (o : Option ℕ) → f s ≡ o → (Among k (filter_map f slots) → IsFound f k slots) → Among k (cons_option o (filter_map f slots)) → IsFound f k (s ∷ slots)
    go None is rest m = let r = rest m in (r.0, inr r.1, r.2)
    go (Some y) is rest m = elim m [
      | inl same ↦ (s, inl refl, is ∙ ap Some (sym same))
      | inr later ↦ (let r = rest later in (r.0, inr r.1, r.2))
    ]

distinct_found : (f : ℕ → Option ℕ) (slots : List ℕ) → ((s t k : ℕ) → Among s slots → Among t slots → f s ≡ Some k → f t ≡ Some k → s ≡ t) → Distinct slots → Distinct (filter_map f slots)
distinct_found f [] apart d = tt
distinct_found f (s ∷ slots) apart d = go (f s) refl (distinct_found f slots (λ a b k m n. apart a b k (inr m) (inr n)) d.1)
  where
    go : (o : Option ℕ) → f s ≡ o → Distinct (filter_map f slots) → Distinct (cons_option o (filter_map f slots))
    go None is rest = rest
    go (Some y) is rest = (
      each_from (λ k. y ≢ k) (filter_map f slots) (λ k m same. let r = found_among f k slots m in each_among (λ z. s ≢ z) r.0 slots d.0 r.1 (apart s r.0 k (inl refl) (inr r.1) (is ∙ ap Some same) r.2)),
      rest,
    )

-- ---- all that pass are found, and no others

module _ {H : Type 0} (named : Wait → Option H) (passes : Wait → Bool) (h : H) (list : H → List ℕ) (f : ℕ → Option ℕ) (slab : Slab Wait) (slots : List (Option ℕ)) (held : AreHeld slab slots) (listed : AreListed slab named list)
    (names : (w : Wait) → passes w ≡ true → named w ≡ Some h)
    (hits : (slot : ℕ) (w : Wait) → get slab slot ≡ Some w → passes w ≡ true → f slot ≡ Some w.place)
    (only : (slot k : ℕ) (w : Wait) → get slab slot ≡ Some w → named w ≡ Some h → f slot ≡ Some k → (passes w ≡ true) × (w.place ≡ k)) where
  abbrev test : ℕ → Bool
  test k = option_map_or passes (wait_at (held_waits slab slots) k) false

  -- the wait in the slot of a place that is found
  wait_of : (slot k : ℕ) → Among slot (list h) → f slot ≡ Some k → (w : Wait) × (get slab slot ≡ Some w) × (passes w ≡ true) × (slot_at slots k ≡ Some slot)
  wait_of slot k m e =
      let o = listed.of_list slot h m in
      let p = only slot k o.0 o.1 o.2 e in
      (o.0, o.1, p.0, subst (λ j. slot_at slots j ≡ Some slot) p.1 (held.placed slot o.0 o.1))

  apart : (s t k : ℕ) → Among s (list h) → Among t (list h) → f s ≡ Some k → f t ≡ Some k → s ≡ t
  apart s t k m n e g = same_number s t (sym (wait_of s k m e).3 ∙ (wait_of t k n g).3)

  passing : (k : ℕ) → Among k (filter_map f (list h)) → Among k (places_where passes (held_waits slab slots))
  passing k m =
      let r = found_among f k (list h) m in
      let v = wait_of r.0 k r.1 r.2 in
      let at : wait_at (held_waits slab slots) k ≡ Some v.0 = at_in slab slots k ∙ (ap (option_and_then (get slab)) v.3 ∙ v.1) in
      let within : k < length (held_waits slab slots) = elim (cases_lt k (length (held_waits slab slots))) [
        | inl lt ↦ lt
        | inr ge ↦ absurd (no_wait v.0 (sym at ∙ get_or_past (held_waits slab slots) k None ge))
      ] in
      range_among test k 0 (length (held_waits slab slots)) (omega arith) (omega (arith, within)) (ap (λ (o : Option Wait). option_map_or passes o false) at ∙ v.2)

  found : (k : ℕ) → Among k (places_where passes (held_waits slab slots)) → Among k (filter_map f (list h))
  found k m = by_wait (wait_at (held_waits slab slots) k) refl (among_range test k 0 (length (held_waits slab slots)) m).2
    where
      by_slot : (w : Wait) → passes w ≡ true → (o : Option ℕ) → slot_at slots k ≡ o → option_and_then (get slab) o ≡ Some w → Among k (filter_map f (list h))
      by_slot w t None is e = absurd (no_wait w (sym e))
      by_slot w t (Some slot) is e =
          let v = held.held k slot is in
          let same : v.0 ≡ w = same_wait v.0 w (sym v.1 ∙ e) in
          let place : w.place ≡ k = sym (ap (λ (u : Wait). u.place) same) ∙ v.2 in
          among_found f k slot (list h) (listed.listed slot w h e (names w t)) (hits slot w e t ∙ ap Some place)

      by_wait : (o : Option Wait) → wait_at (held_waits slab slots) k ≡ o → option_map_or passes o false ≡ true → Among k (filter_map f (list h))
      by_wait None is t = absurd cc
      by_wait (Some w) is t = by_slot w t (slot_at slots k) refl (sym (at_in slab slots k) ∙ is)

  pub exact : (places : List ℕ) → IsPermutation (filter_map f (list h)) places → IsNonDecreasing places → places ≡ places_where passes (held_waits slab slots)
  exact places moved sorted =
      let distinct = distinct_moved (filter_map f (list h)) places moved (distinct_found f (list h) apart (listed.once h)) in
      rising_same places (places_where passes (held_waits slab slots)) (rises places sorted distinct) (range_rises test 0 (length (held_waits slab slots)))
      (λ k m. passing k (among_of k (filter_map f (list h)) (Contains-permutation places (filter_map f (list h)) k (IsPermutation-sym (filter_map f (list h)) places moved) (of_among k places m))))
      (λ k m. among_of k places (Contains-permutation (filter_map f (list h)) places k moved (of_among k (filter_map f (list h)) (found k m))))

-- ---- each of the three lists

pub in_slot : (slab : Slab Wait) (slot : ℕ) (w : Wait) → get slab slot ≡ Some w → place_in slab slot ≡ Some w.place
in_slot slab slot w e = ap (option_map (λ (v : Wait). v.place)) e

at_place : (slab : Slab Wait) (slot k : ℕ) (w : Wait) → get slab slot ≡ Some w → place_in slab slot ≡ Some k → w.place ≡ k
at_place slab slot k w e f = same_number w.place k (sym (in_slot slab slot w e) ∙ f)

-- due at the next tick, and with no tick before it
pub due_to : (count : ℕ) (due : Option ℕ) → option_map_or (λ d. eqb d (suc count)) due false ≡ true → ahead_of count due ≡ Some 0
due_to count None e = absurd cc
due_to count (Some d) e =
    let is : d ≡ suc count = same_test d (suc count) e in
    rw (is, lt-ltb count (suc count) (omega arith)) (ap Some (omega arith))

pub due_from : (count : ℕ) (due : Option ℕ) → ahead_of count due ≡ Some 0 → option_map_or (λ d. eqb d (suc count)) due false ≡ true
due_from count None e = absurd (no_number 0 (sym e))
due_from count (Some d) e = elim (cases_lt count d) [
  | inl lt ↦
      let zero_is : d - suc count ≡ 0 = same_number (d - suc count) 0 (rw (lt-ltb count d lt) at e) in
      let is : d ≡ suc count = omega (arith, lt, zero_is) in
      rw is (eq-eqb (suc count) (suc count) refl)
  | inr le ↦ absurd (no_number 0 (sym (rw (le-ltb count d le) at e)))
]

link_to : (l : ℕ) (link : Option ℕ) → option_map_or (λ own. eqb own l) link false ≡ true → link ≡ Some l
link_to l None e = absurd cc
link_to l (Some own) e = ap Some (same_test own l e)

link_from : (l : ℕ) (link : Option ℕ) → link ≡ Some l → option_map_or (λ own. eqb own l) link false ≡ true
link_from l None e = absurd (no_number l (sym e))
link_from l (Some own) e = rw (same_number own l e) (eq-eqb l l refl)

card_to : (c : List ℕ) (card : Option (List ℕ)) → option_map_or (λ own. pointwise ◌==◌ own c) card false ≡ true → option_map ending card ≡ Some (ending c)
card_to c None e = absurd cc
card_to c (Some own) e = ap (λ (d : List ℕ). Some (ending d)) (same_text own c (sym e))

module _ (slab : Slab Wait) (slots : List (Option ℕ)) (held : AreHeld slab slots) where
  pub due_exact : (count : ℕ) (list : ℕ → List ℕ) (places : List ℕ) → AreListed slab (λ w. ahead_of count w.due) list → IsPermutation (filter_map (place_in slab) (list 0)) places → IsNonDecreasing places → places ≡ places_where (is_due (suc count)) (held_waits slab slots)
  due_exact count list places listed =
      exact (λ w. ahead_of count w.due) (is_due (suc count)) 0 list (place_in slab) slab slots held listed (λ w t. due_to count w.due t) (λ slot w e t. in_slot slab slot w e) (λ slot k w e n f. (due_from count w.due n, at_place slab slot k w e f)) places

  pub link_exact : (l : ℕ) (list : ℕ → List ℕ) (places : List ℕ) → AreListed slab (λ w. w.link) list → IsPermutation (filter_map (place_in slab) (list l)) places → IsNonDecreasing places → places ≡ places_where (is_on l) (held_waits slab slots)
  link_exact l list places listed =
      exact (λ w. w.link) (is_on l) l list (place_in slab) slab slots held listed (λ w t. link_to l w.link t) (λ slot w e t. in_slot slab slot w e) (λ slot k w e n f. (link_from l w.link n, at_place slab slot k w e f)) places

  pub card_exact : (c : List ℕ) (list : ℕ → List ℕ) (places : List ℕ) → AreListed slab (λ w. option_map ending w.card) list → IsPermutation (filter_map (place_if (is_of c) slab) (list (ending c))) places → IsNonDecreasing places → places ≡ places_where (is_of c) (held_waits slab slots)
  card_exact c list places listed = exact (λ w. option_map ending w.card) (is_of c) (ending c) list (place_if (is_of c) slab) slab slots held listed (λ w t. card_to c w.card t) hits only places
    where
      if_held : (slot : ℕ) (w : Wait) → get slab slot ≡ Some w → place_if (is_of c) slab slot ≡ (if is_of c w then Some w.place else None)
      if_held slot w e = ap (option_and_then (λ (v : Wait). if is_of c v then Some v.place else None)) e

      hits : (slot : ℕ) (w : Wait) → get slab slot ≡ Some w → is_of c w ≡ true → place_if (is_of c) slab slot ≡ Some w.place
      hits slot w e t = if_held slot w e ∙ ap (λ (b : Bool). if b then Some w.place else None) t

      only : (slot k : ℕ) (w : Wait) → get slab slot ≡ Some w → option_map ending w.card ≡ Some (ending c) → place_if (is_of c) slab slot ≡ Some k → (is_of c w ≡ true) × (w.place ≡ k)
      only slot k w e n f = go (is_of c w) (sym (if_held slot w e) ∙ f)
        where
          go : (b : Bool) → (if b then Some w.place else None) ≡ Some k → (b ≡ true) × (w.place ≡ k)
          go true g = (refl, same_number w.place k g)
          go false g = absurd (no_number k (sym g))
