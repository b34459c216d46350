-- Look-ups in pairs of which no two have the same prefix.
use Rattle.std.proofs.Common.{◌≡◌, ℕ, zero, suc, ◌==◌, ◌<◌, ◌⊎◌, Bool, true, false, cond, List, [], ◌∷◌, ◌++◌, length, Option, Some, None, refl, sym, ap, ◌∙◌, inl, inr, arith}
use Rattle.std.specs.Prelude.{slice_get}
use Rattle.std.specs.Option.{option_map, option_map_or, option_or}
use Rattle.std.specs.Cmp.Lexicographic.{pointwise, same_text}
use Rattle.std.proofs.lemmas.Slice.Eq.{bytes_eq-Decides}
use Rattle.std.proofs.lemmas.Bool.{cases_Bool, false≢true}
use Rattle.std.proofs.lemmas.Option.{same_Some}
use Rattle.prefix_map.specs.Values.{value_of}
use Rattle.prefix_map.specs.Walk.{prefix_at, is_at, with_value}

pub text_itself : (xs : List ℕ) → pointwise ◌==◌ xs xs ≡ true
text_itself xs = (bytes_eq-Decides xs xs).1 refl

pub text_same : (xs ys : List ℕ) → pointwise ◌==◌ xs ys ≡ true → xs ≡ ys
text_same xs ys h = same_text xs ys (sym h)

other_text : (xs ys : List ℕ) → pointwise ◌==◌ xs ys ≡ false → pointwise ◌==◌ ys xs ≡ false
other_text xs ys h = elim (cases_Bool (pointwise ◌==◌ ys xs)) [
  | inl is ↦ absurd (false≢true (sym h ∙ rw (text_same ys xs is) (text_itself xs)))
  | inr no' ↦ no'
]

module _ {V : Type 0} where
  told_at : (p : List ℕ) (o : Option (List ℕ × V)) → option_map_or (λ e. pointwise ◌==◌ p e.0) o false ≡ true → option_map (λ e. e.0) o ≡ Some p
  told_at p None h = absurd (false≢true h)
  told_at p (Some e) h = ap (λ q. Some q) (sym (text_same p e.0 h))

  denied_at : (p : List ℕ) (o : Option (List ℕ × V)) → option_map_or (λ e. pointwise ◌==◌ p e.0) o false ≡ false → option_map (λ e. e.0) o ≡ Some p → ⊥
  denied_at p None h is = absurd cc
  denied_at p (Some e) h is = false≢true (sym h ∙ rw (same_Some e.0 p is) (text_itself p))

  pub stands : (entries : List (List ℕ × V)) (i : ℕ) (p : List ℕ) → is_at entries i p ≡ true → prefix_at entries i ≡ Some p
  stands entries i p h = told_at p (slice_get entries i) h

  pub stands_not : (entries : List (List ℕ × V)) (i : ℕ) (p : List ℕ) → is_at entries i p ≡ false → prefix_at entries i ≡ Some p → ⊥
  stands_not entries i p h is = denied_at p (slice_get entries i) h is

  -- no place has the prefix
  pub value_absent : (p : List ℕ) (entries : List (List ℕ × V)) → ((i : ℕ) → prefix_at entries i ≡ Some p → ⊥) → value_of p entries ≡ None
  value_absent p [] none = refl
  value_absent p (e ∷ es) none = elim (cases_Bool (pointwise ◌==◌ p e.0)) [
    | inl is ↦ absurd (none 0 (ap (λ q. Some q) (sym (text_same p e.0 is))))
    | inr no' ↦ rw no' (value_absent p es (λ i h. none (suc i) h))
  ]

  -- the one place that has it
  pub value_there : (p : List ℕ) (entries : List (List ℕ × V)) (i : ℕ) → prefix_at entries i ≡ Some p → ((j : ℕ) → prefix_at entries j ≡ Some p → j ≡ i) → value_of p entries ≡ option_map (λ e. e.1) (slice_get entries i)
  value_there p [] i there one = absurd cc
  value_there p (e ∷ es) zero there one = rw (same_Some e.0 p there, text_itself p) refl
  value_there p (e ∷ es) (suc i) there one = elim (cases_Bool (pointwise ◌==◌ p e.0)) [
    | inl is ↦ let bad : 0 ≡ suc i = one 0 (ap (λ q. Some q) (sym (text_same p e.0 is))) in absurd (omega arith)
    | inr no' ↦ rw no' (value_there p es i there (λ j h. let next : suc j ≡ suc i = one (suc j) h in omega arith))
  ]

  or_cond : (b : Bool) (v : V) (m n : Option V) → option_or (cond b (Some v) m) n ≡ cond b (Some v) (option_or m n)
  or_cond true v m n = refl
  or_cond false v m n = refl

  or_none : (m : Option V) → option_or m None ≡ m
  or_none None = refl
  or_none (Some x) = refl

  value_both : (q : List ℕ) (es fs : List (List ℕ × V)) → value_of q (es ++ fs) ≡ option_or (value_of q es) (value_of q fs)
  value_both q [] fs = refl
  value_both q (e ∷ es) fs = ap (λ m. cond (pointwise ◌==◌ q e.0) (Some e.1) m) (value_both q es fs) ∙ sym (or_cond (pointwise ◌==◌ q e.0) e.1 (value_of q es) (value_of q fs))

  -- a prefix that has no value gets one
  pub value_added : (p : List ℕ) (v : V) (entries : List (List ℕ × V)) → value_of p entries ≡ None → (q : List ℕ) → value_of q (entries ++ (p, v) ∷ []) ≡ cond (pointwise ◌==◌ p q) (Some v) (value_of q entries)
  value_added p v entries none q = value_both q entries ((p, v) ∷ []) ∙ elim (cases_Bool (pointwise ◌==◌ p q)) [
    | inl is ↦
        let same : p ≡ q = text_same p q is in
        rw (is, ← same, none, text_itself p) refl
    | inr no' ↦ rw (no', other_text p q no') (or_none (value_of q entries))
  ]

  -- a prefix gets another value
  pub value_changed : (p : List ℕ) (v : V) (entries : List (List ℕ × V)) (i : ℕ) → prefix_at entries i ≡ Some p → ((j : ℕ) → prefix_at entries j ≡ Some p → j ≡ i)
      → (q : List ℕ) → value_of q (with_value entries i v) ≡ cond (pointwise ◌==◌ p q) (Some v) (value_of q entries)
  value_changed p v [] i there one q = absurd cc
  value_changed p v (e ∷ es) zero there one q =
      let same : e.0 ≡ p = same_Some e.0 p there in
      rw same (elim (cases_Bool (pointwise ◌==◌ p q)) [
        | inl is ↦ rw (is, ← text_same p q is, text_itself p) refl
        | inr no' ↦ rw (no', other_text p q no') refl
      ])
  value_changed p v (e ∷ es) (suc i) there one q =
      let later = value_changed p v es i there (λ j h. let next : suc j ≡ suc i = one (suc j) h in omega arith) q in
      ap (λ m. cond (pointwise ◌==◌ q e.0) (Some e.1) m) later ∙ elim (cases_Bool (pointwise ◌==◌ p q)) [
        | inr no' ↦ rw no' refl
        | inl is ↦
            let same : p ≡ q = text_same p q is in
            elim (cases_Bool (pointwise ◌==◌ p e.0)) [
              | inl also ↦ let bad : 0 ≡ suc i = one 0 (ap (λ q. Some q) (sym (text_same p e.0 also))) in absurd (omega arith)
              | inr not ↦ rw (is, ← same, not) refl
            ]
      ]

  -- what stands where one pair more stands at the end
  pub at_end : (entries : List (List ℕ × V)) (e : List ℕ × V) (i : ℕ) (q : List ℕ) → prefix_at (entries ++ e ∷ []) i ≡ Some q → (prefix_at entries i ≡ Some q) ⊎ ((i ≡ length entries) × (e.0 ≡ q))
  at_end [] e zero q h = inr (refl, same_Some e.0 q h)
  at_end [] e (suc i) q h = absurd cc
  at_end (x ∷ es) e zero q h = inl h
  at_end (x ∷ es) e (suc i) q h = elim (at_end es e i q h) [
    | inl before ↦ inl before
    | inr last ↦ inr (ap (λ n. suc n) last.0, last.1)
  ]

  pub place_within : (entries : List (List ℕ × V)) (i : ℕ) (q : List ℕ) → prefix_at entries i ≡ Some q → i < length entries
  place_within [] i q h = absurd cc
  place_within (x ∷ es) zero q h = omega arith
  place_within (x ∷ es) (suc i) q h = let less = place_within es i q h in omega arith

  pub same_prefixes : (entries : List (List ℕ × V)) (at : ℕ) (v : V) (i : ℕ) → prefix_at (with_value entries at v) i ≡ prefix_at entries i
  same_prefixes [] at v i = refl
  same_prefixes (x ∷ es) zero v zero = refl
  same_prefixes (x ∷ es) zero v (suc i) = refl
  same_prefixes (x ∷ es) (suc at) v zero = refl
  same_prefixes (x ∷ es) (suc at) v (suc i) = same_prefixes es at v i

  pub same_length : (entries : List (List ℕ × V)) (at : ℕ) (v : V) → length (with_value entries at v) ≡ length entries
  same_length [] at v = refl
  same_length (x ∷ es) zero v = refl
  same_length (x ∷ es) (suc at) v = ap (λ n. suc n) (same_length es at v)
