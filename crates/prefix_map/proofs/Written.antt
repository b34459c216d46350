-- What a write to a node changes.
use Rattle.std.proofs.Common.{◌≡◌, ℕ, zero, suc, ◌==◌, ◌&&◌, ◌<◌, ◌≤◌, true, false, List, [], ◌∷◌, length, Some, None, refl, sym, ap, ◌∙◌, inl, inr, arith, slice_set, slice_index_or}
use Rattle.std.specs.Prelude.{slice_get}
use Rattle.std.proofs.lemmas.Bool.{cases_Bool, false≢true, eqb-true, eq-eqb, lt-ltb, le-ltb}
use Rattle.prefix_map.specs.declared.node.Node.{Node}
use Rattle.std.specs.Option.{option_map}
use Rattle.prefix_map.specs.Values.{value_of}
use Rattle.prefix_map.specs.Walk.{number_at, number_of, place_behind, prefix_at, next, pairs, with_value}
use Rattle.prefix_map.specs.Tree.{IsTree}
use Rattle.prefix_map.specs.End.{IsAbsent}
use Rattle.prefix_map.proofs.Lookups.{value_there, value_absent}

numbers_other : (xs : List ℕ) (k v d : ℕ) → (d == k) ≡ false → number_at (slice_set xs k v) d ≡ number_at xs d
numbers_other [] k v d no' = refl
numbers_other (x ∷ xs) zero v zero no' = absurd (false≢true (sym no' ∙ eq-eqb 0 0 refl))
numbers_other (x ∷ xs) zero v (suc d) no' = refl
numbers_other (x ∷ xs) (suc k) v zero no' = refl
numbers_other (x ∷ xs) (suc k) v (suc d) no' = elim (cases_Bool (d == k)) [
  | inl is ↦ absurd (false≢true (sym no' ∙ eq-eqb (suc d) (suc k) (ap (λ n. suc n) (eqb-true d k is))))
  | inr not ↦ numbers_other xs k v d not
]

module _ {V : Type 0} where
  pub pairs_kept : (nodes : List (Node V)) (i : ℕ) (n m : Node V) → i < length nodes → n ≡ slice_index_or nodes i n → m.prefix ≡ n.prefix → m.value ≡ n.value → pairs (slice_set nodes i m) ≡ pairs nodes
  pairs_kept [] i n m lt is p v = refl
  pairs_kept (x ∷ nodes) zero n m lt is p v = ap (λ (e : List ℕ × V). e ∷ pairs nodes) (λ j. ((p ∙ ap (λ (k : Node V). k.prefix) is) j, (v ∙ ap (λ (k : Node V). k.value) is) j))
  pairs_kept (x ∷ nodes) (suc i) n m lt is p v = ap (λ es. (x.prefix, x.value) ∷ es) (pairs_kept nodes i n m (omega arith) is p v)

  pub pairs_put : (nodes : List (Node V)) (i : ℕ) (n m : Node V) → i < length nodes → n ≡ slice_index_or nodes i n → m.prefix ≡ n.prefix → pairs (slice_set nodes i m) ≡ with_value (pairs nodes) i m.value
  pairs_put [] i n m lt is p = refl
  pairs_put (x ∷ nodes) zero n m lt is p = ap (λ (q : List ℕ). (q, m.value) ∷ pairs nodes) (p ∙ ap (λ (k : Node V). k.prefix) is)
  pairs_put (x ∷ nodes) (suc i) n m lt is p = ap (λ es. (x.prefix, x.value) ∷ es) (pairs_put nodes i n m (omega arith) is p)

  numbers_kept : (nodes : List (Node V)) (i : ℕ) (n m : Node V) (j d : ℕ) → i < length nodes → n ≡ slice_index_or nodes i n → ((j == i) ≡ true → number_at m.behind d ≡ number_at n.behind d)
      → number_of (slice_get (slice_set nodes i m) j) d ≡ number_of (slice_get nodes j) d
  numbers_kept [] i n m j d lt is same = refl
  numbers_kept (x ∷ nodes) zero n m zero d lt is same = same (eq-eqb 0 0 refl) ∙ ap (λ (k : Node V). number_at k.behind d) is
  numbers_kept (x ∷ nodes) zero n m (suc j) d lt is same = refl
  numbers_kept (x ∷ nodes) (suc i) n m zero d lt is same = refl
  numbers_kept (x ∷ nodes) (suc i) n m (suc j) d lt is same = numbers_kept nodes i n m j d (omega arith) is (λ e. same (eq-eqb (suc j) (suc i) (ap (λ k. suc k) (eqb-true j i e))))

  -- a node with the same numbers
  pub next_kept : (nodes : List (Node V)) (i : ℕ) (n m : Node V) → i < length nodes → n ≡ slice_index_or nodes i n → m.behind ≡ n.behind → (j d : ℕ) → next (slice_set nodes i m) j d ≡ next nodes j d
  next_kept nodes i n m lt is same j d = ap (place_behind j) (numbers_kept nodes i n m j d lt is (λ _. ap (λ b. number_at b d) same))

  -- a node with one other number
  pub next_other : (nodes : List (Node V)) (i : ℕ) (n m : Node V) (digit v : ℕ) → i < length nodes → n ≡ slice_index_or nodes i n → m.behind ≡ slice_set n.behind digit v
      → (j d : ℕ) → ((j == i) && (d == digit)) ≡ false → next (slice_set nodes i m) j d ≡ next nodes j d
  next_other nodes i n m digit v lt is put j d apart = ap (place_behind j) (numbers_kept nodes i n m j d lt is here)
    where
      other : (j == i) ≡ true → (d == digit) ≡ false
      other e = rw e at apart

      here : (j == i) ≡ true → number_at m.behind d ≡ number_at n.behind d
      here e = rw put (numbers_other n.behind digit v d (other e))

  pub pairs_length : (nodes : List (Node V)) → length (pairs nodes) ≡ length nodes
  pairs_length [] = refl
  pairs_length (x ∷ nodes) = ap (λ n. suc n) (pairs_length nodes)

  -- what the end of a walk tells of the value
  pub value_found : (nodes : List (Node V)) (p : List ℕ) (at : ℕ) → IsTree (pairs nodes) (next nodes) → prefix_at (pairs nodes) at ≡ Some p → value_of p (pairs nodes) ≡ option_map (λ e. e.1) (slice_get (pairs nodes) at)
  value_found nodes p at t there = value_there p (pairs nodes) at there (λ j h. t.single j at p h there)

  pub value_missing : (nodes : List (Node V)) (p : List ℕ) → IsAbsent (pairs nodes) p → value_of p (pairs nodes) ≡ None
  value_missing nodes p absent = value_absent p (pairs nodes) absent

  pub value_nowhere : (nodes : List (Node V)) (p : List ℕ) → length nodes ≡ 0 → value_of p (pairs nodes) ≡ None
  value_nowhere [] p none = refl
  value_nowhere (x ∷ nodes) p none = absurd (omega arith)

number_is : (xs : List ℕ) (k : ℕ) → number_at xs k ≡ slice_index_or xs k 0
number_is [] k = refl
number_is (x ∷ xs) zero = refl
number_is (x ∷ xs) (suc k) = number_is xs k

module _ {V : Type 0} where
  behind_is : (nodes : List (Node V)) (i : ℕ) (n : Node V) (d : ℕ) → i < length nodes → number_of (slice_get nodes i) d ≡ slice_index_or (slice_index_or nodes i n).behind d 0
  behind_is [] i n d lt = absurd (omega arith)
  behind_is (x ∷ nodes) zero n d lt = number_is x.behind d
  behind_is (x ∷ nodes) (suc i) n d lt = behind_is nodes i n d (omega arith)

  pub next_some : (nodes : List (Node V)) (i : ℕ) (n : Node V) (d place : ℕ) → i < length nodes → slice_index_or (slice_index_or nodes i n).behind d 0 ≡ place → i < place → Some place ≡ next nodes i d
  next_some nodes i n d place lt is behind =
      let number : number_of (slice_get nodes i) d ≡ place = behind_is nodes i n d lt ∙ is in
      rw (number, lt-ltb i place behind) refl

  pub next_none : (nodes : List (Node V)) (i : ℕ) (n : Node V) (d place : ℕ) → i < length nodes → slice_index_or (slice_index_or nodes i n).behind d 0 ≡ place → place ≤ i → None ≡ next nodes i d
  next_none nodes i n d place lt is before =
      let number : number_of (slice_get nodes i) d ≡ place = behind_is nodes i n d lt ∙ is in
      rw (number, le-ltb i place before) refl
