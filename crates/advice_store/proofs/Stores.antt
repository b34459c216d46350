-- The store after a tick.
use Rattle.std.proofs.Common.{◌≡◌, inl, inr, ◌^◌, ◌<◌, ◌≤◌, ap, ◌∙◌}
use Rattle.std.proofs.lemmas.Bool.{cases_lt}
use Rattle.advice_slots.specs.Items.{SlotsView}

-- a tick takes no room
pub room_ticked : (v v' x : SlotsView) → (v.count < 2 ^ 63 → v' ≡ x) → (2 ^ 63 ≤ v.count → v' ≡ v) → x.room ≡ v.room → v'.room ≡ v.room
room_ticked v v' x next last same = elim (cases_lt v.count (2 ^ 63)) [
  | inl lt ↦ ap (λ (w : SlotsView). w.room) (next lt) ∙ same
  | inr ge ↦ ap (λ (w : SlotsView). w.room) (last ge)
]
