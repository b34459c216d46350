-- Lists of slots, whatever keeps their neighbors.
use Rattle.std.proofs.Common.{◌≡◌, ◌≢◌, inl, inr, ℕ, ◌<◌, ◌≤◌, true, false, List, [], ◌∷◌, length, map, get_or, arith, sym, ap, ◌∙◌, eqb}
use Rattle.std.proofs.Math.ListN.{set}
use Rattle.std.proofs.lemmas.List.{length-set, ext_get_or, get_or-set_same, get_or-set_other, length-map, get_or-map}
use Rattle.std.proofs.lemmas.List.FromFn.{length-map-range_with_len, get_or-map-range_with_len}
use Rattle.std.proofs.lemmas.Bool.{cases_eq}
use Rattle.std.proofs.lemmas.Bool.Decides.{nat_tests}
use Rattle.std.proofs.lemmas.Map.Steps.{length-le_from_distinct_below}
use Rattle.std.specs.List.{range_with_len, list_any, IsDistinct, AllByRecursion}
use Rattle.chain_links.specs.Lists.{Each, Distinct, walk, none, IsList}
use Rattle.chain_links.proofs.Chains.{each_map, chain_same, chain_walk}

-- distinct slots are at most as many as there are
none_equal : (x : ℕ) (xs : List ℕ) → Each (λ y. x ≢ y) xs → AllByRecursion (λ y. eqb x y ≡ false) xs
none_equal x [] h = tt
none_equal x (y ∷ ys) h = (grind (arith, nat_tests, h.0), none_equal x ys h.1)

is_distinct : (xs : List ℕ) → Distinct xs → IsDistinct eqb xs
unfolding IsDistinct
is_distinct [] d = tt
is_distinct (x ∷ xs) d = (none_equal x xs d.0, is_distinct xs d.1)

found_below : (n : ℕ) (xs : List ℕ) (q : ℕ) → Each (λ x. x < n) xs → list_any (eqb q) xs ≡ true → q < n
found_below n [] q h e = absurd (cc)
found_below n (x ∷ xs) q h e = elim (cases_eq q x) [
  | inl same ↦ rw same h.0
  | inr other ↦ found_below n xs q h.1 (let f : eqb q x ≡ false = grind (arith, nat_tests) in rw f at e)
]

pub length-le_slots : (n : ℕ) (xs : List ℕ) → Distinct xs → Each (λ x. x < n) xs → length xs ≤ n
length-le_slots n xs d h = length-le_from_distinct_below xs n (is_distinct xs d) (λ q e. found_below n xs q h e)

-- a list whose members and ends keep their neighbors
pub list_same : (prev next home prev' next' home' : ℕ → ℕ) (n k : ℕ) (xs : List ℕ) → IsList prev next home n k xs
    → next' none ≡ next none → prev' none ≡ prev none
    → ((z : ℕ) → home z ≡ k → next' z ≡ next z) → ((z : ℕ) → home z ≡ k → prev' z ≡ prev z)
    → ((z : ℕ) → home z ≡ k → home' z ≡ k) → ((z : ℕ) → home' z ≡ k → home z ≡ k)
    → IsList prev' next' home' n k xs
list_same prev next home prev' next' home' n k xs r ne pe on op oh back = record {
  chain =
      chain_same
      prev
      next
      prev'
      next'
      none
      xs
      none
      r.chain
      ne
      (each_map (λ x. home x ≡ k) (λ z. next' z ≡ next z) xs on r.homes)
      (each_map (λ x. home x ≡ k) (λ z. prev' z ≡ prev z) xs op r.homes)
      pe;
  homes = each_map (λ x. home x ≡ k) (λ x. home' x ≡ k) xs oh r.homes;
  small = r.small;
  apart = r.apart;
  whole = λ x lt e. r.whole x lt (back x e);
}

-- the list that is walked is the one that is linked
pub list_is : (prev next home : ℕ → ℕ) (n h c : ℕ) (xs : List ℕ) → IsList prev next home n h xs → c ≡ length xs → walk next none c ≡ xs
list_is prev next home n h c xs r e = rw e (chain_walk prev next none xs none r.chain)

-- lists by their heads
pub lists_set : (f g : ℕ → List ℕ) (m h : ℕ) (v : List ℕ) → h < m → g h ≡ v → ((k : ℕ) → k < m → k ≢ h → g k ≡ f k) → map g (range_with_len 0 m) ≡ set (map f (range_with_len 0 m)) h v
lists_set f g m h v within here other =
    ext_get_or
    []
    (map g (range_with_len 0 m))
    (set (map f (range_with_len 0 m)) h v)
    (length-map-range_with_len g 0 m ∙ sym (length-set (map f (range_with_len 0 m)) h v ∙ length-map-range_with_len f 0 m))
    (λ i low.
    let lt : i < m = omega (arith, length-map-range_with_len g 0 m) in
    let left : get_or (map g (range_with_len 0 m)) i [] ≡ g i = get_or-map-range_with_len g 0 m i i [] lt (omega arith) in
    elim (cases_eq i h) [
      | inl same ↦ left ∙ (ap g same ∙ (here ∙ rw same (sym (get_or-set_same (map f (range_with_len 0 m)) h v [] (omega (arith, length-map-range_with_len f 0 m))))))
      | inr ne ↦ left ∙ (other i lt ne ∙ sym (get_or-set_other (map f (range_with_len 0 m)) h i v [] ne ∙ get_or-map-range_with_len f 0 m i i [] lt (omega arith)))
    ])

pub lists_map : (f g : ℕ → List ℕ) (w : List ℕ → List ℕ) (m : ℕ) → ((k : ℕ) → k < m → g k ≡ w (f k)) → map g (range_with_len 0 m) ≡ map w (map f (range_with_len 0 m))
lists_map f g w m each =
    ext_get_or
    []
    (map g (range_with_len 0 m))
    (map w (map f (range_with_len 0 m)))
    (length-map-range_with_len g 0 m ∙ sym (length-map (map f (range_with_len 0 m)) w ∙ length-map-range_with_len f 0 m))
    (λ i low.
    let lt : i < m = omega (arith, length-map-range_with_len g 0 m) in
    let in' : i < length (map f (range_with_len 0 m)) = omega (arith, length-map-range_with_len f 0 m) in
    get_or-map-range_with_len g 0 m i i [] lt (omega arith)
    ∙ (each i lt ∙ sym (get_or-map w (map f (range_with_len 0 m)) i [] [] in' ∙ ap w (get_or-map-range_with_len f 0 m i i [] lt (omega arith)))))
