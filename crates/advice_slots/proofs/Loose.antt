-- A slot that has left its lists.
use Rattle.std.proofs.Common.{◌≡◌, ℕ, List, [], get_or, subst, map}
use Rattle.std.proofs.Math.ListN.{get_or-map}
use Rattle.std.proofs.lemmas.List.{get_or_past}
use Rattle.std.proofs.Common.{arith}
use Rattle.chain_links.specs.Lists.{LinksView, IsMember, Among, no_lists, without, unlinked, list_at}
use Rattle.slot_chains.specs.declared.family.Family.{Family}
use Rattle.slot_chains.specs.declared.family.Family.TheVariants.{Bucket, Card, Link}
use Rattle.tick_wheel.specs.Wheel.{WheelView, IsArmed, lists_in}
use Rattle.advice_slots.specs.declared.item.Held.{Held}
use Rattle.advice_slots.proofs.Lists.{among_gone}
use Rattle.advice_slots.proofs.Turning.{at_unlinked}

loose_after : (l : LinksView) (slot : ℕ) → IsMember (unlinked l slot) slot → ⊥
loose_after l slot m = let P : List ℕ → Type 0 = λ xs. Among slot xs in among_gone slot (list_at l m.0) (subst P (at_unlinked l slot m.0) m.1)

no_members : (x : ℕ) → IsMember (no_lists) x → ⊥
no_members x m = let P : List ℕ → Type 0 = λ xs. Among x xs in subst P (get_or_past [] m.0 [] (omega arith)) m.1

unarmed_after : (ws : List (List ℕ)) (x h : ℕ) → Among x (get_or (map (without x) ws) h []) → ⊥
unarmed_after ws x h m = let P : List ℕ → Type 0 = λ xs. Among x xs in among_gone x (get_or ws h []) (subst P (get_or-map (without x) ws h []) m)

module _ (old now : WheelView Held) (x : ℕ) where
  pub left_unarmed : now.waiting ≡ map (without x) old.waiting → IsArmed now x → ⊥
  left_unarmed e m = let W : List (List ℕ) → Type 0 = λ ws. Among x (get_or ws m.0 []) in unarmed_after old.waiting x m.0 (subst W e m.1)

  pub left_loose : now.card ≡ unlinked old.card x → now.link ≡ unlinked old.link x → (family : Family) → IsMember (lists_in now family) x → ⊥
  left_loose e f Bucket m = no_members x m
  left_loose e f Card m = let L : LinksView → Type 0 = λ l. IsMember l x in loose_after old.card x (subst L e m)
  left_loose e f Link m = let L : LinksView → Type 0 = λ l. IsMember l x in loose_after old.link x (subst L f m)
