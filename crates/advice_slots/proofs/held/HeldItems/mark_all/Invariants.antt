use Rattle.std.proofs.Common.{◌≡◌, filter, length, map}
use Rattle.slab.specs.Slab.{slab_len}
use Rattle.advice_slots.specs.Items.{marked_by}
use Rattle.advice_slots.specs.Kept.{items_of, wants}
use Rattle.advice_slots.specs.declared.wanted.Wanted.TheVariants as wanted
use Rattle.advice_slots.proofs.held.HeldItems.mark_all.Given as goal

abbrev pub invariant-loop-slot : goal.invariant-loop-slot
invariant-loop-slot l = record {
  items : map (marked_by l.id) (items_of l.self) ≡ map (marked_by l.id) (items_of l.fn.self);
  len : slab_len l.self.slots ≡ slab_len l.fn.self.slots;
  capacity : l.self.slots.capacity ≡ l.fn.self.slots.capacity;
  rest : l.self ≡ record l.fn.self { slots = l.self.slots };
}

abbrev pub decreases-loop-slot : goal.decreases-loop-slot
decreases-loop-slot l = length (filter (wants (wanted.NotPut l.id)) (items_of l.self))
