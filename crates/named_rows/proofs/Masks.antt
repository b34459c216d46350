-- The prefixes of nodes, by masks.
use Rattle.std.proofs.Common.{◌≡◌, ℕ, zero, suc, ◌+◌, ◌==◌, ◌<◌, ◌^◌, Bool, true, false, not, cond, ◌&&◌, ◌||◌, List, [], ◌∷◌, length, Option, Some, None, is_some, slice_set, slice_index_or, refl, sym, ap, ◌∙◌, inl, inr, arith, bit_and, bit_or}
use Rattle.std.specs.Prelude.{unwrap_or, replicate}
use Rattle.std.specs.List.{list_any, filter}
use Rattle.std.specs.Map.{lookup, keys_of}
use Rattle.std.specs.Ordering.{nat_cmp, eq_by_cmp}
use Rattle.std.specs.Cmp.Lexicographic.{pointwise, slice_cmp, nat_list_cmp_total, nat_list_eq_equiv, texts_ties, same_text}
use Rattle.std.specs.FinSet as set
use Rattle.std.specs.Int.Bits.{and_zero_l, and_self}
use Rattle.std.proofs.lemmas.Nat.{pow_apart, and_or_self, and_or_apart, pow_pos}
use Rattle.std.proofs.lemmas.Bool.{cases_Bool, false≢true, eqb-true, eq-eqb}
use Rattle.prefix_map.specs.Values.{value_of}
use Rattle.named_rows.specs.Rows.{PrefixSet, prefixes_at, is_among, ArePrefixed}
use Rattle.named_rows.specs.Masks.{mask_of, has_node, prefixes_of, sets_from, AreCounted}
use Rattle.named_rows.proofs.Sets.{prefixes_apart, by_order, there_again}
use Rattle.named_rows.proofs.Pushed.{none_taken}

among_keys : {X : Type 0} (test : List ℕ → Bool) (es : List (List ℕ × X)) → list_any test (keys_of es) ≡ is_some (lookup test es)
among_keys test [] = refl
among_keys test (e ∷ es) = ap (λ b. test e.0 || b) (among_keys test es) ∙ go (test e.0)
  where
    go : (b : Bool) → (b || is_some (lookup test es)) ≡ is_some (cond b (Some e.1) (lookup test es))
    go true = refl
    go false = refl

and_false : (b : Bool) → (b && false) ≡ false
and_false true = refl
and_false false = refl

-- the same prefix passes with the same answer
among_some : (t : List ℕ → Bool) (q : List ℕ) (ks : List (List ℕ)) → is_among (filter t ks) q ≡ (t q && is_among ks q)
among_some t q [] = sym (and_false (t q))
among_some t q (k ∷ ks) = elim (cases_Bool (t k)) [
  | inl kept ↦ elim (cases_Bool (pointwise ◌==◌ q k)) [
    | inl is ↦
        let same : t q ≡ true = ap t (same_text q k (sym is)) ∙ kept in
        rw (kept, is, same) refl
    | inr no' ↦ rw (kept, no') (among_some t q ks)
  ]
  | inr left ↦ elim (cases_Bool (pointwise ◌==◌ q k)) [
    | inl is ↦
        let same : t q ≡ false = ap t (same_text q k (sym is)) ∙ left in
        rw (left, is) (among_some t q ks ∙ rw same refl)
    | inr no' ↦ rw (left, no') (among_some t q ks)
  ]
]

has_none : (b : ℕ) → b ≡ 0 → not (b == 0) ≡ false
has_none b e = ap not (eq-eqb b 0 e)

has_some : (b : ℕ) → 0 < b → not (b == 0) ≡ true
has_some b some = elim (cases_Bool (b == 0)) [
  | inl is ↦ let none = eqb-true b 0 is in absurd (omega arith)
  | inr no' ↦ ap not no'
]

none_has : (n : ℕ) → has_node n 0 ≡ false
none_has n = has_none (bit_and 0 (2 ^ n)) (and_zero_l (2 ^ n))

-- the set of a node has the prefixes whose masks have its bit
pub has_prefix : (masks : List (List ℕ × ℕ)) (n : ℕ) (q : List ℕ) → set.contains (prefixes_of masks n) q ≡ has_node n (mask_of q masks)
has_prefix masks n q =
    let passes : List ℕ → Bool = λ p. has_node n (mask_of p masks) in
    set.contains-from_list nat_list_cmp_total (filter passes (keys_of masks)) q ∙ by_order q (filter passes (keys_of masks)) ∙ among_some passes q (keys_of masks)
    ∙ ap (λ b. passes q && b) (among_keys (pointwise ◌==◌ q) masks) ∙ known (value_of q masks)
  where
    known : (o : Option ℕ) → (has_node n (unwrap_or o 0) && is_some o) ≡ has_node n (unwrap_or o 0)
    known None = and_false (has_node n 0) ∙ sym (none_has n)
    known (Some m) = elim (has_node n m) as (λ b. (b && true) ≡ b) [ true ↦ refl | false ↦ refl ]

-- masks that answer alike for a node
pub same_prefixes : (old new : List (List ℕ × ℕ)) (n : ℕ) → ((q : List ℕ) → has_node n (mask_of q new) ≡ has_node n (mask_of q old)) → prefixes_of new n ≡ prefixes_of old n
same_prefixes old new n same = set.same_set nat_list_cmp_total prefixes_apart (prefixes_of new n) (prefixes_of old n) (λ q. has_prefix new n q ∙ same q ∙ sym (has_prefix old n q))

-- a prefix more
pub prefix_more : (old new : List (List ℕ × ℕ)) (n : ℕ) (prefix : List ℕ) → ((q : List ℕ) → has_node n (mask_of q new) ≡ (pointwise ◌==◌ prefix q || has_node n (mask_of q old))) → prefixes_of new n ≡ set.insert (prefixes_of old n) prefix
prefix_more old new n prefix more = set.same_set nat_list_cmp_total prefixes_apart (prefixes_of new n) (set.insert (prefixes_of old n) prefix) has
  where
    tied : (q : List ℕ) → pointwise ◌==◌ prefix q ≡ eq_by_cmp (slice_cmp nat_cmp) q prefix
    tied q = nat_list_eq_equiv.symm prefix q ∙ texts_ties q prefix

    has : (q : List ℕ) → set.contains (prefixes_of new n) q ≡ set.contains (set.insert (prefixes_of old n) prefix) q
    has q = has_prefix new n q ∙ more q ∙ ((λ j. tied q j || sym (has_prefix old n q) j) ∙ sym (set.contains-insert nat_list_cmp_total (prefixes_of old n) prefix q))

pub sets_length : (masks : List (List ℕ × ℕ)) (n : ℕ) (cs : List ℕ) → length (sets_from masks n cs) ≡ length cs
sets_length masks n [] = refl
sets_length masks n (c ∷ cs) = ap (λ k. suc k) (sets_length masks (suc n) cs)

-- the set of the i-th node
at_from : (masks : List (List ℕ × ℕ)) (n : ℕ) (cs : List ℕ) (i : ℕ) → i < length cs → prefixes_at (sets_from masks n cs) i ≡ prefixes_of masks (n + i)
at_from masks n [] i lt = absurd (omega arith)
at_from masks n (c ∷ cs) zero lt = let e : n ≡ n + 0 = omega arith in ap (prefixes_of masks) e
at_from masks n (c ∷ cs) (suc i) lt = let e : suc n + i ≡ n + suc i = omega arith in at_from masks (suc n) cs i (omega arith) ∙ ap (prefixes_of masks) e

pub at_node : (masks : List (List ℕ × ℕ)) (cs : List ℕ) (i : ℕ) → i < length cs → prefixes_at (sets_from masks 0 cs) i ≡ prefixes_of masks i
at_node masks cs i lt = let e : 0 + i ≡ i = omega arith in at_from masks 0 cs i lt ∙ ap (prefixes_of masks) e

pub sets_same : (old new : List (List ℕ × ℕ)) (n : ℕ) (cs : List ℕ) → ((m : ℕ) → prefixes_of new m ≡ prefixes_of old m) → sets_from new n cs ≡ sets_from old n cs
sets_same old new n [] same = refl
sets_same old new n (c ∷ cs) same = λ j. same n j ∷ sets_same old new (suc n) cs same j

counted_same' : (old new : List (List ℕ × ℕ)) (n : ℕ) (cs : List ℕ) → ((m : ℕ) → n < suc m → prefixes_of new m ≡ prefixes_of old m) → AreCounted old n cs → AreCounted new n cs
counted_same' old new n [] same h = tt
counted_same' old new n (c ∷ cs) same h = (h.0 ∙ ap set.len (sym (same n (omega arith))), counted_same' old new (suc n) cs (λ m lt. same m (omega arith)) h.1)

pub counted_same : (old new : List (List ℕ × ℕ)) (n : ℕ) (cs : List ℕ) → ((m : ℕ) → prefixes_of new m ≡ prefixes_of old m) → AreCounted old n cs → AreCounted new n cs
counted_same old new n cs same h = counted_same' old new n cs (λ m lt. same m) h

sets_same' : (old new : List (List ℕ × ℕ)) (n : ℕ) (cs : List ℕ) → ((m : ℕ) → n < suc m → prefixes_of new m ≡ prefixes_of old m) → sets_from new n cs ≡ sets_from old n cs
sets_same' old new n [] same = refl
sets_same' old new n (c ∷ cs) same = λ j. same n (omega arith) j ∷ sets_same' old new (suc n) cs (λ m lt. same m (omega arith)) j

-- a set more of the i-th node, whatever becomes of the counts
sets_put' : (old new : List (List ℕ × ℕ)) (n : ℕ) (cs : List ℕ) (i v : ℕ) (s : PrefixSet) → i < length cs → prefixes_of new (n + i) ≡ s → ((m : ℕ) → (m == n + i) ≡ false → prefixes_of new m ≡ prefixes_of old m)
    → sets_from new n (slice_set cs i v) ≡ slice_set (sets_from old n cs) i s
sets_put' old new n [] i v s lt here others = absurd (omega arith)
sets_put' old new n (c ∷ cs) zero v s lt here others =
    let e : n ≡ n + 0 = omega arith in
    λ j. (ap (prefixes_of new) e ∙ here) j ∷ sets_same' old new (suc n) cs (λ m lt. others m (apart n m lt)) j
  where
    apart : (n m : ℕ) → suc n < suc m → (m == n + 0) ≡ false
    apart n m lt = elim (cases_Bool (m == n + 0)) [
      | inl is ↦ let same = eqb-true m (n + 0) is in absurd (omega arith)
      | inr no' ↦ no'
    ]
sets_put' old new n (c ∷ cs) (suc i) v s lt here others =
    let e : suc n + i ≡ n + suc i = omega arith in
    λ j. others n (apart n i) j ∷ sets_put' old new (suc n) cs i v s (omega arith) (ap (prefixes_of new) e ∙ here) (λ m no'. others m (rw e at no')) j
  where
    apart : (n i : ℕ) → (n == n + suc i) ≡ false
    apart n i = elim (cases_Bool (n == n + suc i)) [
      | inl is ↦ let same = eqb-true n (n + suc i) is in absurd (omega arith)
      | inr no' ↦ no'
    ]

pub sets_put : (old new : List (List ℕ × ℕ)) (cs : List ℕ) (i v : ℕ) (s : PrefixSet) → i < length cs → prefixes_of new i ≡ s → ((m : ℕ) → (m == i) ≡ false → prefixes_of new m ≡ prefixes_of old m)
    → sets_from new 0 (slice_set cs i v) ≡ slice_set (sets_from old 0 cs) i s
sets_put old new cs i v s lt here others =
    let e : 0 + i ≡ i = omega arith in
    sets_put' old new 0 cs i v s lt (ap (prefixes_of new) e ∙ here) (λ m no'. others m (rw e at no'))

counted_put' : (old new : List (List ℕ × ℕ)) (n : ℕ) (cs : List ℕ) (i v : ℕ) → i < length cs → v ≡ set.len (prefixes_of new (n + i)) → ((m : ℕ) → (m == n + i) ≡ false → prefixes_of new m ≡ prefixes_of old m)
    → AreCounted old n cs → AreCounted new n (slice_set cs i v)
counted_put' old new n [] i v lt here others h = absurd (omega arith)
counted_put' old new n (c ∷ cs) zero v lt here others h =
    let e : n + 0 ≡ n = omega arith in
    (here ∙ ap (λ m. set.len (prefixes_of new m)) e, counted_same' old new (suc n) cs (λ m lt. others m (apart n m lt)) h.1)
  where
    apart : (n m : ℕ) → suc n < suc m → (m == n + 0) ≡ false
    apart n m lt = elim (cases_Bool (m == n + 0)) [
      | inl is ↦ let same = eqb-true m (n + 0) is in absurd (omega arith)
      | inr no' ↦ no'
    ]
counted_put' old new n (c ∷ cs) (suc i) v lt here others h =
    let e : suc n + i ≡ n + suc i = omega arith in
    (h.0 ∙ ap set.len (sym (others n (apart n i))), counted_put' old new (suc n) cs i v (omega arith) (rw e here) (λ m no'. others m (rw e at no')) h.1)
  where
    apart : (n i : ℕ) → (n == n + suc i) ≡ false
    apart n i = elim (cases_Bool (n == n + suc i)) [
      | inl is ↦ let same = eqb-true n (n + suc i) is in absurd (omega arith)
      | inr no' ↦ no'
    ]

pub counted_put : (old new : List (List ℕ × ℕ)) (cs : List ℕ) (i v : ℕ) → i < length cs → v ≡ set.len (prefixes_of new i) → ((m : ℕ) → (m == i) ≡ false → prefixes_of new m ≡ prefixes_of old m)
    → AreCounted old 0 cs → AreCounted new 0 (slice_set cs i v)
counted_put old new cs i v lt here others h =
    let e : 0 + i ≡ i = omega arith in
    counted_put' old new 0 cs i v lt (rw e here) (λ m no'. others m (rw e at no')) h

counted_from : (masks : List (List ℕ × ℕ)) (n : ℕ) (cs : List ℕ) (i d : ℕ) → AreCounted masks n cs → i < length cs → slice_index_or cs i d ≡ set.len (prefixes_of masks (n + i))
counted_from masks n [] i d h lt = absurd (omega arith)
counted_from masks n (c ∷ cs) zero d h lt = let e : n ≡ n + 0 = omega arith in h.0 ∙ ap (λ m. set.len (prefixes_of masks m)) e
counted_from masks n (c ∷ cs) (suc i) d h lt = let e : suc n + i ≡ n + suc i = omega arith in counted_from masks (suc n) cs i d h.1 (omega arith) ∙ ap (λ m. set.len (prefixes_of masks m)) e

-- the count of a node is that of its set
pub counted_at : (masks : List (List ℕ × ℕ)) (cs : List ℕ) (i d : ℕ) → AreCounted masks 0 cs → i < length cs → slice_index_or cs i d ≡ set.len (prefixes_at (sets_from masks 0 cs) i)
counted_at masks cs i d h lt = let e : 0 + i ≡ i = omega arith in counted_from masks 0 cs i d h lt ∙ ap (λ m. set.len (prefixes_of masks m)) e ∙ ap set.len (sym (at_node masks cs i lt))

-- a power of two has its own bit alone
own_bit : (k n : ℕ) → has_node n (2 ^ k) ≡ (n == k)
own_bit k n = elim (cases_Bool (n == k)) [
  | inl is ↦
      let same : n ≡ k = eqb-true n k is in
      let both : bit_and (2 ^ k) (2 ^ k) ≡ 2 ^ k = and_self (2 ^ k) in
      rw (is, same) (has_some (bit_and (2 ^ k) (2 ^ k)) (let some = pow_pos k in omega (arith, both)))
  | inr no' ↦
      let apart : k ≡ n → ⊥ = λ e. false≢true (sym no' ∙ eq-eqb n k (sym e)) in
      rw no' (has_none (bit_and (2 ^ k) (2 ^ n)) (pow_apart k n apart))
]

more_bits : (m k n : ℕ) → has_node n (bit_or m (2 ^ k)) ≡ (n == k || has_node n m)
more_bits m k n = elim (cases_Bool (n == k)) [
  | inl is ↦
      let same : n ≡ k = eqb-true n k is in
      let both : bit_and (bit_or m (2 ^ k)) (2 ^ k) ≡ 2 ^ k = and_or_self (2 ^ k) m in
      rw (is, same) (has_some (bit_and (bit_or m (2 ^ k)) (2 ^ k)) (let some = pow_pos k in omega (arith, both)))
  | inr no' ↦
      let apart : k ≡ n → ⊥ = λ e. false≢true (sym no' ∙ eq-eqb n k (sym e)) in
      rw no' (ap (λ b. not (b == 0)) (and_or_apart (2 ^ n) m (2 ^ k) (pow_apart k n apart)))
]

module _ (old kept new : List (List ℕ × ℕ)) (p : List ℕ) (k : ℕ) (same : (q : List ℕ) → value_of q kept ≡ value_of q old) where
  at_mask : (q : List ℕ) (o : Option ℕ) → value_of q new ≡ o → (n : ℕ) → has_node n (mask_of q new) ≡ has_node n (unwrap_or o 0)
  at_mask q o e n = ap (λ v. has_node n (unwrap_or v 0)) e

  -- the first node of a prefix
  pub node_first : value_of p kept ≡ None → ((q : List ℕ) → value_of q new ≡ cond (pointwise ◌==◌ p q) (Some (2 ^ k)) (value_of q kept)) → (n : ℕ) (q : List ℕ)
      → has_node n (mask_of q new) ≡ ((n == k && pointwise ◌==◌ p q) || has_node n (mask_of q old))
  node_first none put n q = elim (cases_Bool (pointwise ◌==◌ p q)) [
    | inl is ↦
        let text : p ≡ q = same_text p q (sym is) in
        let nothing : value_of q old ≡ None = sym (same q) ∙ rw text at none in
        at_mask q (Some (2 ^ k)) (put q ∙ rw is refl) n ∙ own_bit k n ∙ rw (is, nothing) (alone (n == k) (none_has n))
    | inr no' ↦ at_mask q (value_of q kept) (put q ∙ rw no' refl) n ∙ ap (λ v. has_node n (unwrap_or v 0)) (same q) ∙ rw no' (others (n == k))
  ]
    where
      alone : (b : Bool) → has_node n 0 ≡ false → b ≡ ((b && true) || has_node n 0)
      alone true none = refl
      alone false none = sym none

      others : (b : Bool) → has_node n (mask_of q old) ≡ ((b && false) || has_node n (mask_of q old))
      others true = refl
      others false = refl

  -- one node more of a prefix
  pub node_more : (m : ℕ) → value_of p kept ≡ Some m → ((q : List ℕ) → value_of q new ≡ cond (pointwise ◌==◌ p q) (Some (bit_or m (2 ^ k))) (value_of q kept)) → (n : ℕ) (q : List ℕ)
      → has_node n (mask_of q new) ≡ ((n == k && pointwise ◌==◌ p q) || has_node n (mask_of q old))
  node_more m some put n q = elim (cases_Bool (pointwise ◌==◌ p q)) [
    | inl is ↦
        let text : p ≡ q = same_text p q (sym is) in
        let mask : value_of q old ≡ Some m = sym (same q) ∙ rw text at some in
        at_mask q (Some (bit_or m (2 ^ k))) (put q ∙ rw is refl) n ∙ more_bits m k n ∙ rw (is, mask) (whole (n == k))
    | inr no' ↦ at_mask q (value_of q kept) (put q ∙ rw no' refl) n ∙ ap (λ v. has_node n (unwrap_or v 0)) (same q) ∙ rw no' (others (n == k))
  ]
    where
      whole : (b : Bool) → (b || has_node n m) ≡ ((b && true) || has_node n m)
      whole true = refl
      whole false = refl

      others : (b : Bool) → has_node n (mask_of q old) ≡ ((b && false) || has_node n (mask_of q old))
      others true = refl
      others false = refl

-- what changes for the nodes
pub other_prefixes : (old new : List (List ℕ × ℕ)) (p : List ℕ) (k : ℕ) → ((n : ℕ) (q : List ℕ) → has_node n (mask_of q new) ≡ ((n == k && pointwise ◌==◌ p q) || has_node n (mask_of q old))) → (m : ℕ) → (m == k) ≡ false → prefixes_of new m ≡ prefixes_of old m
other_prefixes old new p k nodes m no' = same_prefixes old new m (λ q. nodes m q ∙ rw no' refl)

pub own_prefixes : (old new : List (List ℕ × ℕ)) (p : List ℕ) (k : ℕ) → ((n : ℕ) (q : List ℕ) → has_node n (mask_of q new) ≡ ((n == k && pointwise ◌==◌ p q) || has_node n (mask_of q old))) → prefixes_of new k ≡ set.insert (prefixes_of old k) p
own_prefixes old new p k nodes = prefix_more old new k p (λ q. nodes k q ∙ rw (eq-eqb k k refl) refl)

pub kept_prefixes : (old new : List (List ℕ × ℕ)) → ((q : List ℕ) → mask_of q new ≡ mask_of q old) → (m : ℕ) → prefixes_of new m ≡ prefixes_of old m
kept_prefixes old new same m = same_prefixes old new m (λ q. ap (has_node m) (same q))

-- a node that had the prefix
pub again_prefixes : (old new : List (List ℕ × ℕ)) (p : List ℕ) (k : ℕ) → ((n : ℕ) (q : List ℕ) → has_node n (mask_of q new) ≡ ((n == k && pointwise ◌==◌ p q) || has_node n (mask_of q old))) → has_node k (mask_of p old) ≡ true
    → (m : ℕ) → prefixes_of new m ≡ prefixes_of old m
again_prefixes old new p k nodes had m = elim (cases_Bool (m == k)) [
  | inl is ↦
      let same : m ≡ k = eqb-true m k is in
      rw same (own_prefixes old new p k nodes ∙ there_again (prefixes_of old k) p (has_prefix old k p ∙ had))
  | inr no' ↦ other_prefixes old new p k nodes m no'
]

-- no node has a prefix
counted_none : (n k : ℕ) → AreCounted [] n (replicate k 0)
counted_none n zero = tt
counted_none n (suc k) = (sym (set.len-empty (slice_cmp nat_cmp)), counted_none (suc n) k)

pub counted_zeros : (masks : List (List ℕ × ℕ)) (cs : List ℕ) (k : ℕ) → masks ≡ [] → cs ≡ replicate k 0 → AreCounted masks 0 cs
counted_zeros masks cs k none zeros = rw (none, zeros) (counted_none 0 k)

empty_from : (n : ℕ) (cs : List ℕ) (i : ℕ) → prefixes_at (sets_from [] n cs) i ≡ set.empty
empty_from n [] i = refl
empty_from n (c ∷ cs) zero = refl
empty_from n (c ∷ cs) (suc i) = empty_from (suc n) cs i

length_zeros : (k : ℕ) → length {A = ℕ} (replicate k 0) ≡ k
length_zeros zero = refl
length_zeros (suc k) = ap (λ n. suc n) (length_zeros k)

pub none_prefixed : (masks : List (List ℕ × ℕ)) (cs : List ℕ) (k : ℕ) → masks ≡ [] → cs ≡ replicate k 0 → ArePrefixed k (sets_from masks 0 cs) (λ _. [])
none_prefixed masks cs k none zeros = rw (none, zeros) (none_taken k (sets_from [] 0 (replicate k 0)) (empty_from 0 (replicate k 0)) (sets_length [] 0 (replicate k 0) ∙ length_zeros k))
