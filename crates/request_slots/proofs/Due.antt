-- So many slots are due at the next tick as requests wait that are.
use Rattle.std.proofs.Common.{◌≡◌, ℕ, suc, Bool, true, false, List, length, map, Option, Some, None, refl, sym, ap, ◌∙◌, subst}
use Rattle.std.specs.Option.{option_map_or, option_and_then}
use Rattle.std.proofs.lemmas.List.{length-map}
use Rattle.slab.specs.Slab.{get}
use Rattle.chain_links.specs.Lists.{Among}
use Rattle.tick_wheel.specs.Wheel.{WheelView, due_after}
use Rattle.request_slots.specs.declared.wait.Wait.{Wait}
use Rattle.request_slots.specs.Waits.{count_due, is_due, wait_at, held_waits}
use Rattle.request_slots.specs.Kept.{IsKept, ahead_of, slot_at}
use Rattle.request_slots.proofs.Counting.{among_map, map_among, distinct_map, counted}
use Rattle.request_slots.proofs.Exact.{due_to, due_from}
use Rattle.request_slots.proofs.Waiting.{at_in}

module _ (wheel : WheelView Wait) (slots : List (Option ℕ)) (count : ℕ) (k : IsKept wheel slots count) where
  -- the place of the request in a slot
  abbrev of_slot : ℕ → ℕ
  of_slot slot = option_map_or (λ (w : Wait). w.place) (get wheel.slots slot) 0

  abbrev passes : Option Wait → Bool
  passes w = option_map_or (is_due (suc count)) w false

  held_due : (slot : ℕ) → Among slot (due_after wheel 0) → (w : Wait) × (get wheel.slots slot ≡ Some w) × (ahead_of count w.due ≡ Some 0)
  held_due slot a = k.buckets.of_list slot 0 a

  at_slot : (slot : ℕ) (w : Wait) → get wheel.slots slot ≡ Some w → of_slot slot ≡ w.place
  at_slot slot w e = ap (λ (o : Option Wait). option_map_or (λ (v : Wait). v.place) o 0) e

  apart : (s t : ℕ) → Among s (due_after wheel 0) → Among t (due_after wheel 0) → of_slot s ≡ of_slot t → s ≡ t
  apart s t a b same =
      let x = held_due s a in
      let y = held_due t b in
      let places : x.0.place ≡ y.0.place = sym (at_slot s x.0 x.1) ∙ (same ∙ at_slot t y.0 y.1) in
      let here : Some s ≡ Some t = sym (k.slots_held.placed s x.0 x.1) ∙ (ap (slot_at slots) places ∙ k.slots_held.placed t y.0 y.1) in
      cc

  of : (place : ℕ) → Among place (map of_slot (due_after wheel 0)) → passes (wait_at (held_waits wheel.slots slots) place) ≡ true
  of place a =
      let m = map_among of_slot place (due_after wheel 0) a in
      let x = held_due m.0 m.1 in
      let is : place ≡ x.0.place = m.2 ∙ at_slot m.0 x.0 x.1 in
      let there : wait_at (held_waits wheel.slots slots) place ≡ Some x.0 =
      at_in wheel.slots slots place ∙ (ap (λ j. option_and_then (get wheel.slots) (slot_at slots j)) is ∙ (ap (option_and_then (get wheel.slots)) (k.slots_held.placed m.0 x.0 x.1) ∙ x.1)) in
      ap passes there ∙ due_from count x.0.due x.2

  all : (place : ℕ) → passes (wait_at (held_waits wheel.slots slots) place) ≡ true → Among place (map of_slot (due_after wheel 0))
  all place e = by_slot (slot_at slots place) refl
    where
      by_slot : (o : Option ℕ) → slot_at slots place ≡ o → Among place (map of_slot (due_after wheel 0))
      by_slot None at =
          let none : wait_at (held_waits wheel.slots slots) place ≡ None = at_in wheel.slots slots place ∙ ap (option_and_then (get wheel.slots)) at in
          let no : passes None ≡ true = sym (ap passes none) ∙ e in
          absurd cc
      by_slot (Some slot) at =
          let h = k.slots_held.held place slot at in
          let there : wait_at (held_waits wheel.slots slots) place ≡ Some h.0 = at_in wheel.slots slots place ∙ (ap (option_and_then (get wheel.slots)) at ∙ h.1) in
          let due : is_due (suc count) h.0 ≡ true = sym (ap passes there) ∙ e in
          let among = k.buckets.listed slot h.0 0 h.1 (due_to count h.0.due due) in
          subst (λ j. Among j (map of_slot (due_after wheel 0))) (at_slot slot h.0 h.1 ∙ h.2) (among_map of_slot slot (due_after wheel 0) among)

  pub due_counted : count_due (suc count) (held_waits wheel.slots slots) ≡ length (due_after wheel 0)
  due_counted = counted passes refl (map of_slot (due_after wheel 0)) (held_waits wheel.slots slots) (distinct_map of_slot (due_after wheel 0) apart (k.buckets.once 0)) of all ∙ length-map (due_after wheel 0) of_slot
