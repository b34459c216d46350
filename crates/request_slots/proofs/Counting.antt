-- As many requests are due as slots of theirs.
use Rattle.std.proofs.Common.{◌≡◌, ◌≢◌, ℕ, suc, ◌<◌, Bool, true, false, cond, List, [], ◌∷◌, length, map, get_or, Option, None, refl, sym, ap, ◌∙◌, subst, inl, inr, arith}
use Rattle.std.proofs.Math.ListN.{set}
use Rattle.std.specs.List.{count_by}
use Rattle.std.proofs.lemmas.Bool.{cases_eq, cases_lt, cases_Bool}
use Rattle.std.proofs.lemmas.List.{get_or_past, get_or-set_same, get_or-set_other, length-set}
use Rattle.std.proofs.lemmas.List.Sums.{sum_by-set, sum_by-append}
use Rattle.chain_links.specs.Lists.{Each, Among, Distinct}
use Rattle.chain_links.proofs.Chains.{each_among}

pub among_map : (f : ℕ → ℕ) (s : ℕ) (xs : List ℕ) → Among s xs → Among (f s) (map f xs)
among_map f s [] a = absurd a
among_map f s (x ∷ xs) a = elim a [ inl e ↦ inl (ap f e) | inr b ↦ inr (among_map f s xs b) ]

pub map_among : (f : ℕ → ℕ) (k : ℕ) (xs : List ℕ) → Among k (map f xs) → (s : ℕ) × Among s xs × (k ≡ f s)
map_among f k [] a = absurd a
map_among f k (x ∷ xs) a = elim a [ inl e ↦ (x, inl refl, e) | inr b ↦ (let r = map_among f k xs b in (r.0, inr r.1, r.2)) ]

each_of : (P : ℕ → Type 0) (xs : List ℕ) → ((y : ℕ) → Among y xs → P y) → Each P xs
each_of P [] h = tt
each_of P (x ∷ xs) h = (h x (inl refl), each_of P xs (λ y a. h y (inr a)))

pub distinct_map : (f : ℕ → ℕ) (xs : List ℕ) → ((s t : ℕ) → Among s xs → Among t xs → f s ≡ f t → s ≡ t) → Distinct xs → Distinct (map f xs)
distinct_map f [] apart d = tt
distinct_map f (x ∷ xs) apart d = (
  each_of
      (λ y. f x ≢ y)
      (map f xs)
      (λ y a same. let r = map_among f y xs a in each_among (λ z. x ≢ z) r.0 xs d.0 r.1 (apart x r.0 (inl refl) (inr r.1) (same ∙ r.2))),
  distinct_map f xs (λ s t a b e. apart s t (inr a) (inr b) e) d.1,
)

module _ {A : Type 0} (p : Option A → Bool) (none : p None ≡ false) where
  count_none : (ws : List (Option A)) → ((k : ℕ) → p (get_or ws k None) ≡ true → ⊥) → count_by p ws ≡ 0
  count_none [] h = refl
  count_none (w ∷ ws) h = elim (cases_Bool (p w)) [
    | inl t ↦ absurd (h 0 t)
    | inr f ↦
        let parts = sum_by-append (λ o. cond (p o) 1 0) (w ∷ []) ws in
        let zero_is : ℕ = 0 in
        let first : cond (p w) 1 0 ≡ zero_is = rw f refl in
        let rest = count_none ws (λ k e. h (suc k) e) in
        omega (arith, parts, first, rest)
  ]

  -- these are the places that pass, each once
  pub counted : (ks : List ℕ) (ws : List (Option A)) → Distinct ks → ((k : ℕ) → Among k ks → p (get_or ws k None) ≡ true) → ((k : ℕ) → p (get_or ws k None) ≡ true → Among k ks) → count_by p ws ≡ length ks
  counted [] ws d of all = count_none ws all
  counted (k ∷ ks) ws d of all =
      let here : p (get_or ws k None) ≡ true = of k (inl refl) in
      let lt : k < length ws = elim (cases_lt k (length ws)) [
        | inl l ↦ l
        | inr ge ↦ (let past : get_or ws k None ≡ None = get_or_past ws k None ge in absurd (not_none (subst (λ o. p o ≡ true) past here)))
      ] in
      let less = sum_by-set (λ o. cond (p o) 1 0) ws k None None lt in
      let one : ℕ = 1 in
      let zero_is : ℕ = 0 in
      let was : cond (p (get_or ws k None)) 1 0 ≡ one = rw here refl in
      let now : cond (p None) 1 0 ≡ zero_is = rw none refl in
      let rest = counted ks (set ws k None) d.1 still others in
      omega (arith, less, was, now, rest)
    where
      not_none : p None ≡ true → ⊥
      not_none e = let no : true ≡ false = sym e ∙ none in absurd cc

      apart : (j : ℕ) → Among j ks → j ≢ k
      apart j a same = each_among (λ z. k ≢ z) j ks d.0 a (sym same)

      still : (j : ℕ) → Among j ks → p (get_or (set ws k None) j None) ≡ true
      still j a = ap p (get_or-set_other ws k j None None (apart j a)) ∙ of j (inr a)

      gone : (j : ℕ) → j ≡ k → p (get_or (set ws k None) j None) ≡ true → ⊥
      gone j same e = elim (cases_lt k (length ws)) [
        | inl lt ↦ not_none (sym (ap p (ap (λ i. get_or (set ws k None) i None) same ∙ get_or-set_same ws k None None lt)) ∙ e)
        | inr ge ↦ not_none (sym (ap p (ap (λ i. get_or (set ws k None) i None) same ∙ get_or_past (set ws k None) k None (let n = length-set ws k None in omega (arith, n, ge)))) ∙ e)
      ]

      others : (j : ℕ) → p (get_or (set ws k None) j None) ≡ true → Among j ks
      others j e = elim (cases_eq j k) [
        | inl same ↦ absurd (gone j same e)
        | inr ne ↦ elim (all j (sym (ap p (get_or-set_other ws k j None None ne)) ∙ e)) [ inl same ↦ absurd (ne same) | inr a ↦ a ]
      ]
