-- Growing keeps walks and rows.
use Rattle.std.proofs.Common.{◌≡◌, ℕ, ◌+◌, ◌<◌, false, ◌==◌, ◌&&◌, ◌⊎◌, List, [], ◌∷◌, ◌++◌, length, Option, Some, None, refl, sym, ap, ◌∙◌, inl, inr, arith}
use Rattle.std.specs.Prelude.{option_and_then}
use Rattle.std.proofs.lemmas.Bool.{cases_Bool, false≢true, eqb-true, eq-eqb}
use Rattle.std.proofs.lemmas.Option.{same_Some, slice_get_past}
use Rattle.prefix_trie.specs.declared.branch.Branch.{Branch}
use Rattle.prefix_trie.specs.Walk.{behind, behind_of, row_at, reach, place_of}
use Rattle.prefix_trie.specs.Growth.{IsTree, IsSameTo}
use Rattle.prefix_trie.proofs.Reaching.{reach_same, reach_on, IsGrown, IsNew, grown}

pub same_itself : (bs : List Branch) → IsTree bs → IsSameTo bs bs
same_itself bs t = record { tree = t; walks = λ a i h. h; places = λ a. refl }

pub same_then : (a b c : List Branch) → IsSameTo a b → IsSameTo b c → IsSameTo a c
same_then a b c h k = record {
  tree = k.tree;
  walks = λ q i w. k.walks q i (h.walks q i w);
  places = λ q. k.places q ∙ h.places q;
}

places_same : (old new : List Branch) → ((i : ℕ) → row_at new i ≡ row_at old i) → (a b : Option ℕ) → a ≡ b → option_and_then (row_at new) a ≡ option_and_then (row_at old) b
places_same old new rows None b e = rw (← e) refl
places_same old new rows (Some i) b e = rw (← e) (rows i)

-- a branch more to which nothing leads
pub same_bare : (old new : List Branch) → IsTree old → ((i d : ℕ) → behind new i d ≡ behind old i d) → ((i : ℕ) → row_at new i ≡ row_at old i)
    → ((a : List ℕ) (i : ℕ) → reach (behind old) 0 a ≡ Some i → 0 < length new → i < length new) → IsSameTo old new
same_bare old new t nexts rows within =
    let walks : (a : List ℕ) → reach (behind new) 0 a ≡ reach (behind old) 0 a = λ a. reach_same (behind old) (behind new) nexts 0 a in
    record {
      tree = record {
        single = λ a b i x y. t.single a b i (sym (walks a) ∙ x) (sym (walks b) ∙ y);
        inside = λ a i x. within a i (sym (walks a) ∙ x);
      };
      walks = λ a i x. walks a ∙ x;
      places = λ a. places_same old new rows (reach (behind new) 0 a) (reach (behind old) 0 a) (walks a);
    }

-- from no branches a walk leads nowhere
pub from_none : (a : List ℕ) (i : ℕ) → reach (behind []) 0 a ≡ Some i → 0 ≡ i
from_none [] i h = same_Some 0 i h
from_none (d ∷ a) i h = absurd cc

module _ (old new : List Branch) (at d : ℕ) (t : IsTree old) (g : IsGrown (behind old) (behind new) at d (length old)) (rows : (i : ℕ) → row_at new i ≡ row_at old i) (len : length new ≡ length old + 1) (bare : row_at old (length old) ≡ None) where
  old-new : (a : List ℕ) (i : ℕ) → reach (behind old) 0 a ≡ Some i → (reach (behind new) 0 a ≡ reach (behind old) 0 a) ⊎ IsNew (behind old) (behind new) at d (length old) 0 a → reach (behind new) 0 a ≡ Some i
  old-new a i h (inl same) = same ∙ h
  old-new a i h (inr it) = let bad : None ≡ Some i = sym it.none ∙ h in absurd cc

  some' : 0 < length old
  some' = elim (cases_Bool (length old == 0)) [
    | inl is ↦ absurd (g.some (eqb-true (length old) 0 is))
    | inr no' ↦ let h : (length old ≡ 0 → ⊥) = λ z. false≢true (sym no' ∙ eq-eqb (length old) 0 z) in omega arith
  ]

  inside-new : (a : List ℕ) (i : ℕ) → reach (behind new) 0 a ≡ Some i → (reach (behind new) 0 a ≡ reach (behind old) 0 a) ⊎ IsNew (behind old) (behind new) at d (length old) 0 a → i < length new
  inside-new a i h (inl same) = let lt = t.inside a i (sym same ∙ h) some' in omega arith
  inside-new a i h (inr it) = let e = same_Some (length old) i (sym it.there ∙ h) in omega arith

  single-new : (a b : List ℕ) (i : ℕ) → reach (behind new) 0 a ≡ Some i → reach (behind new) 0 b ≡ Some i
      → (reach (behind new) 0 a ≡ reach (behind old) 0 a) ⊎ IsNew (behind old) (behind new) at d (length old) 0 a
      → (reach (behind new) 0 b ≡ reach (behind old) 0 b) ⊎ IsNew (behind old) (behind new) at d (length old) 0 b → a ≡ b
  single-new a b i x y (inl p) (inl q) = t.single a b i (sym p ∙ x) (sym q ∙ y)
  single-new a b i x y (inl p) (inr q) =
      let lt = t.inside a i (sym p ∙ x) some' in
      let e = same_Some (length old) i (sym q.there ∙ y) in
      absurd (omega arith)
  single-new a b i x y (inr p) (inl q) =
      let lt = t.inside b i (sym q ∙ y) some' in
      let e = same_Some (length old) i (sym p.there ∙ x) in
      absurd (omega arith)
  single-new a b i x y (inr p) (inr q) = p.form ∙ ap (λ s. s ++ d ∷ []) (t.single p.before q.before at p.through q.through) ∙ sym q.form

  places-new : (a : List ℕ) → (reach (behind new) 0 a ≡ reach (behind old) 0 a) ⊎ IsNew (behind old) (behind new) at d (length old) 0 a → place_of new a ≡ place_of old a
  places-new a (inl same) = places_same old new rows (reach (behind new) 0 a) (reach (behind old) 0 a) same
  places-new a (inr it) = rw (it.there, it.none) (rows (length old) ∙ bare)

  pub same_grown : IsSameTo old new
  same_grown = record {
    tree = record {
      single = λ a b i x y. single-new a b i x y (grown (behind old) (behind new) at d (length old) g 0 a) (grown (behind old) (behind new) at d (length old) g 0 b);
      inside = λ a i x _. inside-new a i x (grown (behind old) (behind new) at d (length old) g 0 a);
    };
    walks = λ a i h. old-new a i h (grown (behind old) (behind new) at d (length old) g 0 a);
    places = λ a. places-new a (grown (behind old) (behind new) at d (length old) g 0 a);
  }

-- how far the walk along digits has come
pub record IsOnTheWay (first now : List Branch) (front : List ℕ) (at : ℕ) : Type 0 where
  pub same : IsSameTo first now
  pub to : reach (behind now) 0 front ≡ Some at
  pub root : 0 < length now

pub way_from_root : (first now : List Branch) → IsSameTo first now → 0 < length now → IsOnTheWay first now [] 0
way_from_root first now same root = record { same = same; to = refl; root = root }

one_step : (next : ℕ → ℕ → ℕ) (at d k : ℕ) → next at d ≡ k → 0 < k → reach next at (d ∷ []) ≡ Some k
one_step next at d k h some = elim (cases_Bool (k == 0)) [
  | inl is ↦ let z = eqb-true k 0 is in absurd (omega arith)
  | inr no' ↦ rw (h, no') refl
]

pub way_on : (first old new : List Branch) (front : List ℕ) (at d k : ℕ) → IsOnTheWay first old front at → IsSameTo old new → behind new at d ≡ k → 0 < k → 0 < length new
    → IsOnTheWay first new (front ++ d ∷ []) k
way_on first old new front at d k w same to some root = record {
  same = same_then first old new w.same same;
  to = reach_on (behind new) 0 at front (d ∷ []) (same.walks front at w.to) ∙ one_step (behind new) at d k to some;
  root = root;
}

pub nothing_past : (bs : List Branch) (e : ℕ) → behind bs (length bs) e ≡ 0
nothing_past bs e = ap (λ b. behind_of b e) (slice_get_past bs (length bs) (omega arith))

pub no_row_past : (bs : List Branch) → row_at bs (length bs) ≡ None
no_row_past bs = ap (option_and_then (λ b. b.row)) (slice_get_past bs (length bs) (omega arith))

pub other_place : (j at e d : ℕ) → at < j → ((j == at) && (e == d)) ≡ false
other_place j at e d lt = elim (cases_Bool (j == at)) [
  | inl is ↦ let z = eqb-true j at is in absurd (omega arith)
  | inr no' ↦ rw no' refl
]

pub way_inside : (first now : List Branch) (front : List ℕ) (at : ℕ) → IsOnTheWay first now front at → at < length now
way_inside first now front at w = w.same.tree.inside front at w.to w.root
