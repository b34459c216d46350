-- What walks do when a step is added.
use Rattle.std.proofs.Common.{◌≡◌, ℕ, false, ◌==◌, ◌&&◌, ◌⊎◌, List, [], ◌∷◌, ◌++◌, Some, None, refl, sym, ap, ◌∙◌, inl, inr}
use Rattle.std.proofs.lemmas.Bool.{cases_Bool, and_parts, false≢true, eqb-true, eq-eqb}
use Rattle.std.proofs.lemmas.Option.{same_Some}
use Rattle.prefix_trie.specs.Walk.{reach}

-- equal steps, equal walks
pub reach_same : (old new : ℕ → ℕ → ℕ) → ((i d : ℕ) → new i d ≡ old i d) → (i : ℕ) (a : List ℕ) → reach new i a ≡ reach old i a
reach_same old new h i [] = refl
reach_same old new h i (d ∷ ds) = elim (cases_Bool (old i d == 0)) [
  | inl is ↦ rw (h i d, is) refl
  | inr no' ↦ rw (h i d, no') (reach_same old new h (old i d) ds)
]

-- a walk goes on where its front ends
pub reach_on : (next : ℕ → ℕ → ℕ) (i k : ℕ) (a b : List ℕ) → reach next i a ≡ Some k → reach next i (a ++ b) ≡ reach next k b
reach_on next i k [] b h = let same : i ≡ k = same_Some i k h in rw same refl
reach_on next i k (d ∷ a) b h = elim (cases_Bool (next i d == 0)) [
  | inl is ↦ let bad : None ≡ Some k = rw is at h in absurd cc
  | inr no' ↦ rw no' (reach_on next (next i d) k a b (rw no' at h))
]

pub reach_stops : (next : ℕ → ℕ → ℕ) (i : ℕ) (a b : List ℕ) → reach next i a ≡ None → reach next i (a ++ b) ≡ None
reach_stops next i [] b h = absurd cc
reach_stops next i (d ∷ a) b h = elim (cases_Bool (next i d == 0)) [
  | inl is ↦ rw is refl
  | inr no' ↦ rw no' (reach_stops next (next i d) a b (rw no' at h))
]

module _ (old new : ℕ → ℕ → ℕ) (i d j : ℕ) where
  pub record IsGrown : Type 0 where
    pub was : old i d ≡ 0
    pub now : new i d ≡ j
    pub some : j ≡ 0 → ⊥
    pub leaf : (e : ℕ) → new j e ≡ 0
    pub others : (s e : ℕ) → ((s == i) && (e == d)) ≡ false → new s e ≡ old s e

  -- the walk that ends at the new branch
  pub record IsNew (s : ℕ) (a : List ℕ) : Type 0 where
    pub before : List ℕ
    pub none : reach old s a ≡ None
    pub there : reach new s a ≡ Some j
    pub form : a ≡ before ++ d ∷ []
    pub through : reach old s before ≡ Some i

  at_zero : (next : ℕ → ℕ → ℕ) (s e : ℕ) (a : List ℕ) → next s e ≡ 0 → reach next s (e ∷ a) ≡ None
  at_zero next s e a h = rw h refl

  at_some : (next : ℕ → ℕ → ℕ) (s e k : ℕ) (a : List ℕ) → next s e ≡ k → (k ≡ 0 → ⊥) → reach next s (e ∷ a) ≡ reach next k a
  at_some next s e k a h some = elim (cases_Bool (k == 0)) [
    | inl is ↦ absurd (some (eqb-true k 0 is))
    | inr no' ↦ rw (h, no') refl
  ]

  here : IsGrown → (a : List ℕ) → (reach new i (d ∷ a) ≡ reach old i (d ∷ a)) ⊎ IsNew i (d ∷ a)
  here h [] = inr (record { before = []; none = at_zero old i d [] h.was; there = at_some new i d j [] h.now h.some; form = refl; through = refl })
  here h (e ∷ a) = inl (at_some new i d j (e ∷ a) h.now h.some ∙ at_zero new j e a (h.leaf e) ∙ sym (at_zero old i d (e ∷ a) h.was))

  further : (s e k : ℕ) (a : List ℕ) → old s e ≡ k → new s e ≡ k → (k ≡ 0 → ⊥) → (reach new k a ≡ reach old k a) ⊎ IsNew k a → (reach new s (e ∷ a) ≡ reach old s (e ∷ a)) ⊎ IsNew s (e ∷ a)
  further s e k a o n some (inl same) = inl (at_some new s e k a n some ∙ same ∙ sym (at_some old s e k a o some))
  further s e k a o n some (inr it) = inr (record {
    before = e ∷ it.before;
    none = at_some old s e k a o some ∙ it.none;
    there = at_some new s e k a n some ∙ it.there;
    form = ap (λ t. e ∷ t) it.form;
    through = at_some old s e k it.before o some ∙ it.through;
  })

  -- a walk leads where it led, or to the new branch
  pub grown : IsGrown → (s : ℕ) (a : List ℕ) → (reach new s a ≡ reach old s a) ⊎ IsNew s a
  grown h s [] = inl refl
  grown h s (e ∷ a) = elim (cases_Bool ((s == i) && (e == d))) [
    | inl is ↦
        let (one, two) = and_parts (s == i) (e == d) is in
        rw (eqb-true s i one, eqb-true e d two) (here h a)
    | inr no' ↦
        let same = h.others s e no' in
        elim (cases_Bool (old s e == 0)) [
          | inl zero' ↦
              let z = eqb-true (old s e) 0 zero' in
              inl (at_zero new s e a (same ∙ z) ∙ sym (at_zero old s e a z))
          | inr some ↦ further s e (old s e) a refl same (λ z. absurd (false≢true (sym some ∙ eq-eqb (old s e) 0 z))) (grown h (old s e) a)
        ]
  ]
