-- Advices that are known by the identities of their messages, slot by slot.
use Rattle.std.proofs.Common.{◌≡◌, inl, inr, ℕ, List, [], ◌∷◌, filter_map, Option, Some, None, is_some, refl, sym, ap, ◌∙◌, subst}
use Rattle.std.specs.Prelude.{IfOk, Result, Ok, Err}
use Rattle.slab.specs.Slab.{get}
use Rattle.chain_links.specs.Lists.{Among}
use Rattle.tick_wheel.specs.Wheel.{WheelView}
use Rattle.advice_slots.specs.Items.{HasOwnId, HaveOwnIds}
use Rattle.advice_slots.specs.Kept.{AreListed, items_in, order}
use Rattle.advice_slots.specs.declared.item.Held.{Held}
use Rattle.advice_slots.proofs.Standing.{no_item, same_item}

own_from : (f : ℕ → Option Held) (xs : List ℕ) → HaveOwnIds (filter_map f xs) → (slot : ℕ) (x : Held) → Among slot xs → f slot ≡ Some x → HasOwnId x.item
own_from f [] own slot x m e = absurd m
own_from f (y ∷ ys) own slot x m e = go (f y) refl (own_from f ys)
  where
    go : (o : Option Held) → f y ≡ o → (HaveOwnIds (filter_map f ys) → (s : ℕ) (k : Held) → Among s ys → f s ≡ Some k → HasOwnId k.item) → HasOwnId x.item
    go None n r =
        let left : HaveOwnIds (filter_map f ys) = rw n at own in
        elim m [
          | inl same ↦ absurd (no_item x (sym e ∙ (ap f same ∙ n)))
          | inr later ↦ r left slot x later e
        ]
    go (Some z) n r =
        let left : HasOwnId z.item × HaveOwnIds (filter_map f ys) = rw n at own in
        elim m [
          | inl same ↦ subst (λ (k : Held). HasOwnId k.item) (same_item z x (sym n ∙ (ap f (sym same) ∙ e))) left.0
          | inr later ↦ r left.1 slot x later e
        ]

pub own_at : (w : WheelView Held) (ticks : ℕ) → AreListed w ticks → HaveOwnIds (items_in w.slots (order w)) → (slot : ℕ) (x : Held) → get w.slots slot ≡ Some x → HasOwnId x.item
own_at w ticks l own slot x e = own_from (get w.slots) (order w) own slot x (l.all slot (ap is_some e)) e

-- what holds of an answer holds of an equal one
pub if_same : {V E A : Type 0} (f : V → A) (r : Result V E) (x y : A) → x ≡ y → IfOk r (λ v. f v ≡ x) → IfOk r (λ v. f v ≡ y)
if_same f (Ok v) x y e h = h ∙ e
if_same f (Err z) x y e h = tt
