use Rattle.std.proofs.Common.{◌≡◌, ℕ, ◌≤◌, not, filter, length}
use Rattle.slab.specs.Slab.{slab_len, HasRoomFor}
use Rattle.advice_slots.specs.Kept.{items_of, wants}
use Rattle.advice_slots.proofs.held.HeldItems.leave_all.Given as goal

abbrev pub invariant-loop-slot : goal.invariant-loop-slot
invariant-loop-slot l = record {
  items : filter (λ a. not (wants l.wanted a)) (items_of l.self) ≡ filter (λ a. not (wants l.wanted a)) (items_of l.fn.self);
  len : slab_len l.self.slots ≤ slab_len l.fn.self.slots;
  room : (n : ℕ) → HasRoomFor l.fn.self.slots n → HasRoomFor l.self.slots n;
  rest : l.self ≡ record l.fn.self { slots = l.self.slots; order = l.self.order };
}

abbrev pub decreases-loop-slot : goal.decreases-loop-slot
decreases-loop-slot l = length l.self.order
