-- Lists of slots, with one more or one less.
use Rattle.std.proofs.Common.{◌≡◌, ◌≢◌, inl, inr, ℕ, ◌<◌, true, false, List, [], ◌∷◌, ◌++◌, length, arith, sym, ◌∙◌, subst, eqb}
use Rattle.std.proofs.Math.ListN.{get_or-map}
use Rattle.std.proofs.lemmas.Bool.{cases_Bool}
use Rattle.std.proofs.lemmas.Bool.Decides.{nat_tests}
use Rattle.std.proofs.lemmas.List.{get_or-set_same, get_or-set_other}
use Rattle.chain_links.specs.Lists.{Among, Distinct, IsMember, LinksView, list_at, pushed, unlinked, without}
use Rattle.chain_links.proofs.Chains.{each_among}
use Rattle.chain_links.proofs.Popped.{each_from}

pub at_head : (l : LinksView) (head slot : ℕ) → head < length l.lists → list_at (pushed l head slot) head ≡ list_at l head ++ slot ∷ []
at_head l head slot lt = get_or-set_same l.lists head (list_at l head ++ slot ∷ []) [] lt

pub at_other : (l : LinksView) (head slot h : ℕ) → h ≢ head → list_at (pushed l head slot) h ≡ list_at l h
at_other l head slot h ne = get_or-set_other l.lists head h (list_at l head ++ slot ∷ []) [] ne

pub same_test : (x y : ℕ) → eqb x y ≡ true → x ≡ y
same_test x y t = grind (arith, nat_tests)

-- a slot that was taken out is gone
pub among_gone : (x : ℕ) (xs : List ℕ) → Among x (without x xs) → ⊥
among_gone x [] m = m
among_gone x (y ∷ ys) m = elim (cases_Bool (eqb x y)) [
  | inl t ↦ among_gone x ys (rw t at m)
  | inr f ↦ (let k : Among x (y ∷ without x ys) = rw f at m in elim k [ inl same ↦ differ f same | inr later ↦ among_gone x ys later ])
] where
  differ : eqb x y ≡ false → x ≡ y → ⊥
  differ f e = grind (arith, nat_tests)

-- a slot among others stays when another is taken out
pub among_without : (x y : ℕ) (xs : List ℕ) → x ≢ y → Among x xs → Among x (without y xs)
among_without x y [] ne m = m
among_without x y (z ∷ zs) ne m = elim (cases_Bool (eqb y z)) [
  | inl t ↦ rw t (elim m [
    | inl same ↦ absurd (ne (same ∙ sym (same_test y z t)))
    | inr later ↦ among_without x y zs ne later
  ])
  | inr f ↦ rw f (elim m [
    | inl same ↦ inl same
    | inr later ↦ inr (among_without x y zs ne later)
  ])
]

-- and those that are left were there
pub among_before : (x y : ℕ) (xs : List ℕ) → Among x (without y xs) → Among x xs
among_before x y [] m = m
among_before x y (z ∷ zs) m = elim (cases_Bool (eqb y z)) [
  | inl t ↦ inr (among_before x y zs (rw t at m))
  | inr f ↦ (let k : Among x (z ∷ without y zs) = rw f at m in elim k [ inl same ↦ inl same | inr later ↦ inr (among_before x y zs later) ])
]

-- one more at the end
pub among_end : (x y : ℕ) (xs : List ℕ) → x ≢ y → Among x (xs ++ y ∷ []) → Among x xs
among_end x y [] ne m = elim m [ inl same ↦ absurd (ne same) | inr none ↦ none ]
among_end x y (z ∷ zs) ne m = elim m [ inl same ↦ inl same | inr later ↦ inr (among_end x y zs ne later) ]

pub distinct_without : (x : ℕ) (xs : List ℕ) → Distinct xs → Distinct (without x xs)
distinct_without x [] d = tt
distinct_without x (y ∷ ys) d = elim (cases_Bool (eqb x y)) [
  | inl t ↦ rw t (distinct_without x ys d.1)
  | inr f ↦ rw f (each_from (λ z. y ≢ z) (without x ys) (λ z m. each_among (λ w. y ≢ w) z ys d.0 (among_before z x ys m)), distinct_without x ys d.1)
]

pub at_unlinked : (l : LinksView) (slot h : ℕ) → list_at (unlinked l slot) h ≡ without slot (list_at l h)
at_unlinked l slot h = get_or-map (without slot) l.lists h []

pub loose_after : (l : LinksView) (slot : ℕ) → ¬ IsMember (unlinked l slot) slot
loose_after l slot m = let P : List ℕ → Type 0 = λ xs. Among slot xs in among_gone slot (list_at l m.0) (subst P (at_unlinked l slot m.0) m.1)
