-- Walks lead on where they led, and to what is added.
use Rattle.std.proofs.Common.{◌≡◌, ℕ, zero, suc, ◌==◌, ◌&&◌, ◌<◌, ◌≤◌, ◌+◌, ◌-◌, ◌⊎◌, false, List, [], ◌∷◌, ◌++◌, length, Option, Some, None, refl, sym, ap, ◌∙◌, inl, inr, arith, length-append}
use Rattle.std.specs.Prelude.{option_and_then}
use Rattle.std.proofs.lemmas.Bool.{cases_Bool, and_parts, eqb-true, cases_lt, lt-ltb, le-ltb}
use Rattle.std.proofs.lemmas.Option.{same_Some}
use Rattle.prefix_map.specs.Walk.{digit_at, place_behind, reach, prefix_at, is_at, with_value}
use Rattle.prefix_map.specs.Tree.{IsTree}
use Rattle.prefix_map.specs.End.{IsAbsent, IsFree}
use Rattle.prefix_map.proofs.Lookups.{stands_not, at_end, place_within, same_prefixes, same_length}

step_more : (old new : ℕ → ℕ → Option ℕ) → ((i d k : ℕ) → old i d ≡ Some k → new i d ≡ Some k) → (d i : ℕ) (o n : Option ℕ) → ((a : ℕ) → o ≡ Some a → n ≡ Some a) → option_and_then (λ at. old at d) o ≡ Some i → option_and_then (λ at. new at d) n ≡ Some i
step_more old new more d i None n same h = absurd cc
step_more old new more d i (Some a) n same h = rw (same a refl) (more a d i h)

-- where each step leads on as it did, so do walks
pub reach_more : (old new : ℕ → ℕ → Option ℕ) → ((i d k : ℕ) → old i d ≡ Some k → new i d ≡ Some k) → (p : List ℕ) (n i : ℕ) → reach old p n ≡ Some i → reach new p n ≡ Some i
reach_more old new more p zero i h = h
reach_more old new more p (suc n) i h = step_more old new more (digit_at p n) i (reach old p n) (reach new p n) (λ a there. reach_more old new more p n a there) h

-- a walk that has ended doesn't go on
pub reach_over : (next : ℕ → ℕ → Option ℕ) (p : List ℕ) (n m : ℕ) → reach next p n ≡ None → reach next p (m + n) ≡ None
reach_over next p n zero h = let e : 0 + n ≡ n = omega arith in rw e h
reach_over next p n (suc m) h = let e : suc m + n ≡ suc (m + n) = omega arith in rw (e, reach_over next p n m h) refl

one_more : (next : ℕ → ℕ → Option ℕ) (p : List ℕ) (n at : ℕ) (o : Option ℕ) → reach next p n ≡ Some at → next at (digit_at p n) ≡ o → reach next p (suc n) ≡ o
one_more next p n at o to step = rw to step

module _ {V : Type 0} where
  -- how far the walk along a prefix has come without having found it
  pub record IsOnTheWay (entries : List (List ℕ × V)) (next : ℕ → ℕ → Option ℕ) (p : List ℕ) (steps at : ℕ) : Type 0 where
    pub to : reach next p steps ≡ Some at
    pub within : at < length entries
    pub few : steps ≤ at
    pub others : (m i : ℕ) → m < steps → reach next p m ≡ Some i → prefix_at entries i ≡ Some p → ⊥

  pub way_start : (entries : List (List ℕ × V)) (next : ℕ → ℕ → Option ℕ) (p : List ℕ) → 0 < length entries → IsOnTheWay entries next p 0 0
  way_start entries next p some = record { to = refl; within = some; few = omega arith; others = λ m i lt to is. absurd (omega arith) }

  passed : (entries : List (List ℕ × V)) (next : ℕ → ℕ → Option ℕ) (p : List ℕ) (steps at : ℕ) → IsOnTheWay entries next p steps at → is_at entries at p ≡ false
      → (m i : ℕ) → m < steps + 1 → reach next p m ≡ Some i → prefix_at entries i ≡ Some p → ⊥
  passed entries next p steps at w no' m i lt to is = elim (cases_lt m steps) [
    | inl before ↦ w.others m i before to is
    | inr here ↦
        let same : m ≡ steps = omega arith in
        let place : at ≡ i = same_Some at i (sym w.to ∙ ap (reach next p) (sym same) ∙ to) in
        stands_not entries at p no' (rw place is)
  ]

  pub way_on : (entries : List (List ℕ × V)) (next : ℕ → ℕ → Option ℕ) (p : List ℕ) (steps at place : ℕ) → IsTree entries next → IsOnTheWay entries next p steps at → is_at entries at p ≡ false
      → next at (digit_at p steps) ≡ Some place → at < place → IsOnTheWay entries next p (steps + 1) place
  way_on entries next p steps at place t w no' step behind =
      let e : steps + 1 ≡ suc steps = omega arith in
      let few = w.few in
      record {
        to = rw e (one_more next p steps at (Some place) w.to step);
        within = t.inside at (digit_at p steps) place step;
        few = omega arith;
        others = passed entries next p steps at w no';
      }

  -- where no step leads on, no place has the prefix
  pub way_over : (entries : List (List ℕ × V)) (next : ℕ → ℕ → Option ℕ) (p : List ℕ) (steps at : ℕ) → IsTree entries next → IsOnTheWay entries next p steps at → is_at entries at p ≡ false
      → next at (digit_at p steps) ≡ None → IsAbsent entries p
  way_over entries next p steps at t w no' step i is =
      let (m, to) = t.each i p is in
      elim (cases_lt m (steps + 1)) [
        | inl before ↦ passed entries next p steps at w no' m i before to is
        | inr after ↦
            let over : reach next p (suc steps) ≡ None = one_more next p steps at None w.to step in
            let e : (m - suc steps) + suc steps ≡ m = omega arith in
            let bad : None ≡ Some i = sym (reach_over next p (suc steps) (m - suc steps) over) ∙ ap (reach next p) e ∙ to in
            absurd cc
      ]

  -- one pair more, to which a walk leads
  module _ (entries : List (List ℕ × V)) (old new : ℕ → ℕ → Option ℕ) (p : List ℕ) (v : V) (t : IsTree entries old) (absent : IsAbsent entries p) (more : (i d k : ℕ) → old i d ≡ Some k → new i d ≡ Some k)
      (steps : ℕ) (to : reach new p steps ≡ Some (length entries)) (inside : (i d k : ℕ) → new i d ≡ Some k → k < length entries + 1) where
    each-new : (i : ℕ) (q : List ℕ) → (prefix_at entries i ≡ Some q) ⊎ ((i ≡ length entries) × (p ≡ q)) → (n : ℕ) × (reach new q n ≡ Some i)
    each-new i q (inl before) = let (n, there) = t.each i q before in (n, reach_more old new more q n i there)
    each-new i q (inr last) = (steps, rw (← last.1, last.0) to)

    single-new : (i j : ℕ) (q : List ℕ) → (prefix_at entries i ≡ Some q) ⊎ ((i ≡ length entries) × (p ≡ q)) → (prefix_at entries j ≡ Some q) ⊎ ((j ≡ length entries) × (p ≡ q)) → i ≡ j
    single-new i j q (inl a) (inl b) = t.single i j q a b
    single-new i j q (inl a) (inr b) = absurd (absent i (rw b.1 a))
    single-new i j q (inr a) (inl b) = absurd (absent j (rw a.1 b))
    single-new i j q (inr a) (inr b) = a.0 ∙ sym b.0

    pub tree_more : IsTree (entries ++ (p, v) ∷ []) new
    tree_more = record {
      each = λ i q h. each-new i q (at_end entries (p, v) i q h);
      single = λ i j q a b. single-new i j q (at_end entries (p, v) i q a) (at_end entries (p, v) j q b);
      inside = λ i d k h. let less = inside i d k h in let len = length-append entries ((p, v) ∷ []) in omega (arith, len);
    }

  pub tree_behind : (entries : List (List ℕ × V)) (old new : ℕ → ℕ → Option ℕ) (p : List ℕ) (v : V) (at digit : ℕ) → IsTree entries old → IsAbsent entries p → IsFree old p at digit
      → new at digit ≡ Some (length entries) → ((i d : ℕ) → ((i == at) && (d == digit)) ≡ false → new i d ≡ old i d) → IsTree (entries ++ (p, v) ∷ []) new
  tree_behind entries old new p v at digit t absent free now others =
      tree_more entries old new p v t absent more (suc free.steps)
      (one_more new p free.steps at (Some (length entries)) (reach_more old new more p free.steps at free.to) (rw free.by at now)) inside
    where
      more : (i d k : ℕ) → old i d ≡ Some k → new i d ≡ Some k
      more i d k h = elim (cases_Bool ((i == at) && (d == digit))) [
        | inl is ↦
            let (one, two) = and_parts (i == at) (d == digit) is in
            let bad : None ≡ Some k = sym free.none ∙ rw (eqb-true i at one, eqb-true d digit two) at h in
            absurd cc
        | inr no' ↦ others i d no' ∙ h
      ]

      inside : (i d k : ℕ) → new i d ≡ Some k → k < length entries + 1
      inside i d k h = elim (cases_Bool ((i == at) && (d == digit))) [
        | inl is ↦
            let (one, two) = and_parts (i == at) (d == digit) is in
            let same : length entries ≡ k = same_Some (length entries) k (sym now ∙ rw (eqb-true i at one, eqb-true d digit two) at h) in
            omega arith
        | inr no' ↦ let less = t.inside i d k (sym (others i d no') ∙ h) in omega arith
      ]

  nowhere : (entries : List (List ℕ × V)) → length entries ≡ 0 → (p : List ℕ) → IsAbsent entries p
  nowhere entries none p i h = let less = place_within entries i p h in absurd (omega arith)

  -- the first pair stands where walks begin
  pub tree_first : (entries : List (List ℕ × V)) (old new : ℕ → ℕ → Option ℕ) (p : List ℕ) (v : V) → IsTree entries old → length entries ≡ 0 → ((i d : ℕ) → new i d ≡ old i d) → IsTree (entries ++ (p, v) ∷ []) new
  tree_first entries old new p v t none same =
      tree_more entries old new p v t (nowhere entries none p) (λ i d k h. same i d ∙ h) 0 (ap (λ n. Some n) (sym none)) (λ i d k h. let less = t.inside i d k (sym (same i d) ∙ h) in omega arith)

  -- another value changes no walk
  pub tree_changed : (entries : List (List ℕ × V)) (old new : ℕ → ℕ → Option ℕ) (at : ℕ) (v : V) → IsTree entries old → ((i d : ℕ) → new i d ≡ old i d) → IsTree (with_value entries at v) new
  tree_changed entries old new at v t same = record {
    each = λ i q h. let (n, there) = t.each i q (sym (same_prefixes entries at v i) ∙ h) in (n, reach_more old new (λ i d k h. same i d ∙ h) q n i there);
    single = λ i j q a b. t.single i j q (sym (same_prefixes entries at v i) ∙ a) (sym (same_prefixes entries at v j) ∙ b);
    inside = λ i d k h. let less = t.inside i d k (sym (same i d) ∙ h) in let len = same_length entries at v in omega (arith, len);
  }

  pub tree_none : (next : ℕ → ℕ → Option ℕ) → ((i d : ℕ) → next i d ≡ None) → IsTree {V = V} [] next
  tree_none next none = record {
    each = λ i p h. absurd cc;
    single = λ i j p a b. absurd cc;
    inside = λ i d k h. let bad : None ≡ Some k = sym (none i d) ∙ h in absurd cc;
  }

-- a step leads to a place behind
pub step_behind : (at place k : ℕ) → place_behind at place ≡ Some k → at < k
step_behind at place k h = elim (cases_lt at place) [
  | inl lt ↦ let same : place ≡ k = same_Some place k (rw (lt-ltb at place lt) at h) in omega arith
  | inr le ↦ let bad : None ≡ Some k = rw (le-ltb at place le) at h in absurd cc
]
