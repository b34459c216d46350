-- Slots stay in the lists that their waits name.
use Rattle.std.proofs.Common.{◌≡◌, ◌≢◌, ◌⊎◌, ℕ, List, [], ◌∷◌, ◌++◌, Option, Some, None, refl, sym, ap, ◌∙◌, subst, inl, inr}
use Rattle.std.proofs.lemmas.Bool.{cases_eq}
use Rattle.slab.specs.Slab.{Slab, get, Updates}
use Rattle.chain_links.specs.Lists.{Among, Distinct, without}
use Rattle.chain_links.proofs.Chains.{among_left, among_right, distinct_push}
use Rattle.chain_links.proofs.Popped.{each_from}
use Rattle.request_slots.specs.declared.wait.Wait.{Wait}
use Rattle.request_slots.specs.Kept.{AreListed}
use Rattle.request_slots.proofs.Lists.{among_before, among_end, among_gone, among_without, distinct_without}

same_wait : (v w : Wait) → Some v ≡ Some w → v ≡ w
same_wait v w e = cc

pub no_wait : (w : Wait) → Some w ≡ None → ⊥
no_wait w e = cc

no_name : {H : Type 0} (h : H) → Some h ≡ None → ⊥
no_name h e = cc

same_name : {H : Type 0} (h k : H) → Some h ≡ Some k → h ≡ k
same_name h k e = cc

module _ {H : Type 0} (named : Wait → Option H) (old new : Slab Wait) (slot : ℕ) where
  -- a new slot whose wait names no list
  pub more_unlisted : (w : Wait) (list : H → List ℕ) → AreListed old named list → get old slot ≡ None → Updates old new slot (Some w) → named w ≡ None → AreListed new named list
  more_unlisted w list are none up not = record {
    listed =
        λ s v h at is. elim (cases_eq s slot) [
          | inl same ↦
              let here : get new slot ≡ Some v = subst (λ k. get new k ≡ Some v) same at in
              let v_is : v ≡ w = same_wait v w (sym here ∙ up.changed) in
              absurd (no_name h (sym is ∙ (ap named v_is ∙ not)))
          | inr ne ↦ are.listed s v h (sym (up.others s ne) ∙ at) is
        ];
    of_list =
        λ s h m. let o = are.of_list s h m in elim (cases_eq s slot) [
          | inl same ↦ absurd (no_wait o.0 (sym o.1 ∙ (ap (get old) same ∙ none)))
          | inr ne ↦ (o.0, up.others s ne ∙ o.1, o.2)
        ];
    once = are.once;
  }

  -- a new slot at the end of the list that its wait names
  pub more_listed : (w : Wait) (h : H) (list now : H → List ℕ) → AreListed old named list → get old slot ≡ None → Updates old new slot (Some w) → named w ≡ Some h
      → now h ≡ list h ++ slot ∷ [] → ((k : H) → (now k ≡ list k ++ slot ∷ []) × (k ≡ h) ⊎ (now k ≡ list k)) → AreListed new named now
  more_listed w h list now are none up is here each = record {
    listed =
        λ s v k at names. elim (cases_eq s slot) [
          | inl same ↦
              let there : get new slot ≡ Some v = subst (λ x. get new x ≡ Some v) same at in
              let v_is : v ≡ w = same_wait v w (sym there ∙ up.changed) in
              let k_is : k ≡ h = same_name k h (sym names ∙ (ap named v_is ∙ is)) in
              let at_h : Among slot (now h) = subst (Among slot) (sym here) (among_right slot (list h) (slot ∷ []) (inl refl)) in
              subst (λ x. Among x (now k)) (sym same) (subst (λ j. Among slot (now j)) (sym k_is) at_h)
          | inr ne ↦
              let before : Among s (list k) = are.listed s v k (sym (up.others s ne) ∙ at) names in
              elim (each k) [
                | inl p ↦ subst (Among s) (sym p.0) (among_left s (list k) (slot ∷ []) before)
                | inr p ↦ subst (Among s) (sym p) before
              ]
        ];
    of_list =
        λ s k m. elim (cases_eq s slot) [
          | inl same ↦ elim (each k) [
            | inl p ↦ (w, ap (get new) same ∙ up.changed, is ∙ ap Some (sym p.1))
            | inr p ↦
                let o = are.of_list s k (subst (Among s) p m) in
                absurd (no_wait o.0 (sym o.1 ∙ (ap (get old) same ∙ none)))
          ]
          | inr ne ↦
              let before : Among s (list k) = elim (each k) [
                | inl p ↦ among_end s slot (list k) ne (subst (Among s) p.0 m)
                | inr p ↦ subst (Among s) p m
              ] in
              let o = are.of_list s k before in
              (o.0, up.others s ne ∙ o.1, o.2)
        ];
    once =
        λ k. elim (each k) [
          | inl p ↦ subst Distinct (sym p.0) (distinct_push slot (list k) (each_from (λ y. y ≢ slot) (list k) (λ y m same. let o = are.of_list y k m in no_wait o.0 (sym o.1 ∙ (ap (get old) same ∙ none)))) (are.once k))
          | inr p ↦ subst Distinct (sym p) (are.once k)
        ];
  }

  -- a slot that is given up
  pub less_listed : (list now : H → List ℕ) → AreListed old named list → Updates old new slot None → ((h : H) → now h ≡ without slot (list h)) → AreListed new named now
  less_listed list now are up gone = record {
    listed =
        λ s v h at is. elim (cases_eq s slot) [
          | inl same ↦ absurd (no_wait v (sym at ∙ (ap (get new) same ∙ up.changed)))
          | inr ne ↦ subst (Among s) (sym (gone h)) (among_without s slot (list h) ne (are.listed s v h (sym (up.others s ne) ∙ at) is))
        ];
    of_list =
        λ s h m.
        let left : Among s (without slot (list h)) = subst (Among s) (gone h) m in
        let o = are.of_list s h (among_before s slot (list h) left) in
        elim (cases_eq s slot) [
          | inl same ↦ absurd (among_gone slot (list h) (subst (λ x. Among x (without slot (list h))) same left))
          | inr ne ↦ (o.0, up.others s ne ∙ o.1, o.2)
        ];
    once = λ h. subst Distinct (sym (gone h)) (distinct_without slot (list h) (are.once h));
  }
