-- One more node of a circle.
use Rattle.std.proofs.Common.{◌≡◌, ℕ, ◌+◌, ◌-◌, ◌<◌, ◌≤◌, List, length, get_or, arith, sym, ◌⊎◌, inl, inr, nat_lt, Bool, not, ◌==◌, true, false, refl, ◌∙◌}
use Rattle.std.proofs.lemmas.Bool.{ltb-true, ltb-false, eqb-true}
use Rattle.std.proofs.lemmas.List.{get_or_default}
use Rattle.net_rows.specs.Network.{Network}
use Rattle.rank_maker.specs.Circle.{GoesOn}

-- from each of the first n nodes but the last a route leads to the next
abbrev pub GoesOnTo : Network → List ℕ → List ℕ → ℕ → Type 0
GoesOnTo t class nodes n = (k : ℕ) → k + 1 < n → GoesOn t class (get_or nodes k 0) (get_or nodes (k + 1) 0)

-- the last place of these, or one before it
last_or_before : (k i : ℕ) → 1 ≤ i → k + 1 < i + 1 → (k ≡ i - 1) ⊎ (k + 1 < i)
last_or_before k i low h = elim (nat_lt (k + 1) i) as (λ t. nat_lt (k + 1) i ≡ t → (k ≡ i - 1) ⊎ (k + 1 < i)) [
  | true ↦ λ e. inr (ltb-true (k + 1) i e)
  | false ↦ λ e. inl (let last = ltb-false (k + 1) i e in omega arith)
] refl

at_zero : (nodes : List ℕ) (k a : ℕ) → k < length nodes → a ≡ get_or nodes k a → get_or nodes k 0 ≡ a
at_zero nodes k a within is = get_or_default nodes k 0 a within ∙ sym is

pub goes_on_more : (t : Network) (class nodes : List ℕ) (i a b : ℕ) → 1 ≤ i → a ≡ get_or nodes (i - 1) a → b ≡ get_or nodes i b → i < length nodes
    → GoesOn t class a b → GoesOnTo t class nodes i → GoesOnTo t class nodes (i + 1)
goes_on_more t class nodes i a b low is next_is within here before = λ k lt. elim (last_or_before k i low lt) [
  | inl last ↦
      let next : k + 1 ≡ i = omega arith in
      rw (next, at_zero nodes i b within next_is, last, at_zero nodes (i - 1) a (omega arith) is) here
  | inr earlier ↦ before k earlier
]

not_false : (t : Bool) → not t ≡ false → t ≡ true
not_false true h = refl
not_false false h = cc

pub same_ends : (nodes : List ℕ) (a b : ℕ) → 2 ≤ length nodes → a ≡ get_or nodes 0 a → b ≡ get_or nodes (length nodes - 1) b → not (a == b) ≡ false
    → get_or nodes 0 0 ≡ get_or nodes (length nodes - 1) 0
same_ends nodes a b two is last_is same =
    at_zero nodes 0 a (omega arith) is ∙ eqb-true a b (not_false (a == b) same) ∙ sym (at_zero nodes (length nodes - 1) b (omega arith) last_is)
