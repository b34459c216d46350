-- A slot that leaves its lists.
use Rattle.std.proofs.Common.{◌≡◌, ◌≢◌, ℕ, suc, List, [], ◌∷◌, map, get_or, refl, sym, ap, ◌∙◌, subst}
use Rattle.std.proofs.Math.ListN.{get_or-map}
use Rattle.request_slots.specs.declared.wait.Wait.{Wait}
use Rattle.chain_links.specs.Lists.{IsMember, Among, without, unlinked}
use Rattle.chain_links.proofs.Chains.{without_none}
use Rattle.chain_links.proofs.Popped.{each_from}
use Rattle.tick_wheel.specs.Wheel.{WheelView, IsArmed, disarmed}
use Rattle.request_slots.proofs.Lists.{among_gone}

same_without : (x : ℕ) (xs : List ℕ) → (Among x xs → ⊥) → without x xs ≡ xs
same_without x xs none = without_none x xs (each_from (λ y. x ≢ y) xs (λ y m same. let P : ℕ → Type 0 = λ z. Among z xs in none (subst P (sym same) m)))

none_left : (x : ℕ) (lists : List (List ℕ)) → ((h : ℕ) → Among x (get_or lists h []) → ⊥) → map (without x) lists ≡ lists
none_left x [] none = refl
none_left x (xs ∷ lists) none = let e = same_without x xs (none 0) in let r = none_left x lists (λ h. none (suc h)) in ap (λ ys. ys ∷ map (without x) lists) e ∙ ap (λ ls. xs ∷ ls) r

pub not_armed_now : (w : WheelView Wait) (slot : ℕ) → IsArmed (disarmed w slot) slot → ⊥
not_armed_now w slot m = let P : List ℕ → Type 0 = λ xs. Among slot xs in among_gone slot (get_or w.waiting m.0 []) (subst P (get_or-map (without slot) w.waiting m.0 []) m.1)

pub not_armed : (w : WheelView Wait) (slot : ℕ) → (IsArmed w slot → ⊥) → w ≡ disarmed w slot
not_armed w slot none = ap (λ ws. record w { waiting = ws }) (sym (none_left slot w.waiting (λ h m. none (h, m))))

pub not_linked : (w : WheelView Wait) (slot : ℕ) → (IsMember w.link slot → ⊥) → w ≡ record w { link = unlinked w.link slot }
not_linked w slot none = ap (λ ls. record w { link = record w.link { lists = ls } }) (sym (none_left slot w.link.lists (λ h m. none (h, m))))

pub not_carded : (w : WheelView Wait) (slot : ℕ) → (IsMember w.card slot → ⊥) → w ≡ record w { card = unlinked w.card slot }
not_carded w slot none = ap (λ ls. record w { card = record w.card { lists = ls } }) (sym (none_left slot w.card.lists (λ h m. none (h, m))))
