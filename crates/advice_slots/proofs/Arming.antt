-- The slots of a class, armed one after another.
use Rattle.std.proofs.Common.{◌≡◌, ◌≢◌, inl, inr, ℕ, ◌-◌, ◌<◌, List, [], ◌∷◌, ◌++◌, length, get_or, Option, Some, None, slice_get, arith, refl, sym, ap, ◌∙◌, subst, length-append}
use Rattle.std.proofs.Math.ListN.{set}
use Rattle.std.proofs.lemmas.List.{get_or-set_same, get_or-set_other, set-get_or, length-set}
use Rattle.std.proofs.lemmas.Bool.{cases_eq}
use Rattle.chain_links.specs.Lists.{Among, Distinct}
use Rattle.chain_links.proofs.Chains.{among_right, distinct_split, each_left, each_among}
use Rattle.slot_chains.specs.Chains.{IsListed}
use Rattle.slot_chains.proofs.Listing.{listed_step, listed_all}
use Rattle.tick_wheel.specs.Wheel.{WheelView, IsArmed}
use Rattle.advice_slots.specs.declared.item.Held.{Held}
use Rattle.advice_slots.proofs.Lists.{set_again}

-- so much of a list is armed
pub record IsArming (all : List ℕ) (old now : WheelView Held) (at : ℕ) (cursor : Option ℕ) : Type 0 where
  pub found : List ℕ
  pub wheel : now ≡ record old { waiting = set old.waiting at found }
  pub listed : IsListed all found cursor

pub arming_first : (all : List ℕ) (old : WheelView Held) (at : ℕ) (cursor : Option ℕ) → get_or old.waiting at [] ≡ [] → cursor ≡ slice_get all 0 → IsArming all old old at cursor
arming_first all old at cursor none first = record {
  found = [];
  wheel = ap (λ (ws : List (List ℕ)). record old { waiting = ws }) (sym (set-get_or old.waiting at []) ∙ ap (λ (xs : List ℕ). set old.waiting at xs) none);
  listed = record { rest = all; parts = refl; here = first };
}

module _ (all : List ℕ) (old now : WheelView Held) (at x : ℕ) (a : IsArming all old now at (Some x)) (less : at < length old.waiting) where
  pub so_far : get_or now.waiting at [] ≡ a.found
  so_far = ap (λ w. get_or w.waiting at []) a.wheel ∙ get_or-set_same old.waiting at a.found [] less

  after : (rs : List ℕ) × (all ≡ a.found ++ x ∷ rs)
  after = go a.listed.rest a.listed.parts a.listed.here where
    go : (rest : List ℕ) → all ≡ a.found ++ rest → Some x ≡ slice_get rest 0 → (rs : List ℕ) × (all ≡ a.found ++ x ∷ rs)
    go [] parts here = absurd (cc)
    go (y ∷ ys) parts here = let same : x ≡ y = cc in (ys, rw same parts)

  pub arming_among : Among x all
  arming_among = let P : List ℕ → Type 0 = λ xs. Among x xs in subst P (sym after.1) (among_right x a.found (x ∷ after.0) (inl refl))

  pub arming_free : Distinct all → ((y : ℕ) → Among y all → IsArmed old y → ⊥) → IsArmed now x → ⊥
  arming_free d none m =
      let P : List ℕ → Type 0 = λ xs. Among x xs in
      let there : Among x (get_or (set old.waiting at a.found) m.0 []) = subst P (ap (λ w. get_or w.waiting m.0 []) a.wheel) m.1 in
      elim (cases_eq m.0 at) [
        | inl same ↦
            let Q : ℕ → Type 0 = λ i. Among x (get_or (set old.waiting at a.found) i []) in
            let here = subst P (get_or-set_same old.waiting at a.found [] less) (subst Q same there) in
            let D : List ℕ → Type 0 = λ xs. Distinct xs in
            let parts = distinct_split x a.found after.0 (subst D after.1 d) in
            each_among (λ y. x ≢ y) x a.found (each_left (λ y. x ≢ y) a.found after.0 parts.1) here refl
        | inr ne ↦ none x arming_among (m.0, subst P (get_or-set_other old.waiting at m.0 a.found [] ne) there)
      ]

  pub arming_step : (new : WheelView Held) (next : Option ℕ) → new ≡ record now { waiting = set now.waiting at (get_or now.waiting at [] ++ x ∷ []) } → ((ls rs : List ℕ) → all ≡ ls ++ x ∷ rs → next ≡ slice_get rs 0) → IsArming all old new at next
  arming_step new next e f = record {
    found = a.found ++ x ∷ [];
    wheel =
        e
        ∙ (ap (λ (xs : List ℕ). record now { waiting = set now.waiting at (xs ++ x ∷ []) }) so_far
        ∙ (ap (λ (w : WheelView Held). record w { waiting = set w.waiting at (a.found ++ x ∷ []) }) a.wheel
        ∙ ap (λ (ws : List (List ℕ)). record old { waiting = ws }) (set_again old.waiting at a.found (a.found ++ x ∷ []))));
    listed = listed_step all a.found x next a.listed f;
  }

  pub arming_more : (new : WheelView Held) → new ≡ record now { waiting = set now.waiting at (get_or now.waiting at [] ++ x ∷ []) } → length all - length (get_or new.waiting at []) < length all - length (get_or now.waiting at [])
  arming_more new e =
      let grown : get_or new.waiting at [] ≡ get_or now.waiting at [] ++ x ∷ [] =
      ap (λ w. get_or w.waiting at []) e ∙ get_or-set_same now.waiting at (get_or now.waiting at [] ++ x ∷ []) [] (let l = ap (λ w. length w.waiting) a.wheel in let s = length-set old.waiting at a.found in omega (arith, l, s, less)) in
      let n = ap length grown in
      let m = ap length so_far in
      let l = ap length after.1 in
      omega (arith, n, m, l, length-append (get_or now.waiting at []) (x ∷ []), length-append a.found (x ∷ after.0))

pub arming_done : (all : List ℕ) (old now : WheelView Held) (at : ℕ) (cursor : Option ℕ) → cursor ≡ None → IsArming all old now at cursor → now ≡ record old { waiting = set old.waiting at all }
arming_done all old now at cursor none a = a.wheel ∙ ap (λ (xs : List ℕ). record old { waiting = set old.waiting at xs }) (listed_all all a.found cursor none a.listed)
