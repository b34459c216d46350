-- How slots stand to what requests wait for.
use Rattle.std.specs.Prelude.{◌≡◌, ℕ, suc, ◌+◌, ◌-◌, ◌*◌, ◌≤◌, Bool, List, length, Option, Some, None, slice_index_or, if◌then◌else◌, nat_lt}
use Rattle.std.specs.Option.{option_map, option_and_then}
use Rattle.slab.specs.Slab.{Slab, get, HasRoomFor}
use Rattle.chain_links.specs.Lists.{Among, Distinct, LinksView, list_at, pushed}
use Rattle.tick_wheel.specs.Wheel.{WheelView, armed, due_after}
use Rattle.request_slots.specs.declared.wait.Wait.{Wait}

-- the number that the last three digits of a card number write
abbrev pub ending : List ℕ → ℕ
ending digits = slice_index_or digits (length digits - 3) 0 * 100 + slice_index_or digits (length digits - 2) 0 * 10 + slice_index_or digits (length digits - 1) 0

-- each slot stands once in the list that its wait names, if it names one, and in no other
pub record AreListed {H : Type 0} (slab : Slab Wait) (named : Wait → Option H) (list : H → List ℕ) : Type 0 where
  pub listed : (slot : ℕ) (w : Wait) (h : H) → get slab slot ≡ Some w → named w ≡ Some h → Among slot (list h)
  pub of_list : (slot : ℕ) (h : H) → Among slot (list h) → (w : Wait) × (get slab slot ≡ Some w) × (named w ≡ Some h)
  pub once : (h : H) → Distinct (list h)

-- how many ticks after the next one a wait is due, if it is due at all
abbrev pub ahead_of : ℕ → Option ℕ → Option ℕ
ahead_of count None = None
ahead_of count (Some due) = if nat_lt count due then Some (due - suc count) else None

-- a slot in the bucket of the tick at which it is due, if it is due at one
abbrev pub armed_by : WheelView Wait → ℕ → ℕ → Option ℕ → WheelView Wait
armed_by wheel slot count None = wheel
armed_by wheel slot count (Some due) = armed wheel slot (due - count)

-- with the slot at the end of the list of a head, if there is one
abbrev pub linked : LinksView → Option ℕ → ℕ → LinksView
linked l None slot = l
linked l (Some head) slot = pushed l head slot

-- the slot of the request at a place, if it waits
abbrev pub slot_at : List (Option ℕ) → ℕ → Option ℕ
slot_at slots place = slice_index_or slots place None

-- the place of the request in a slot
abbrev pub place_in : Slab Wait → ℕ → Option ℕ
place_in slab slot = option_map (λ w. w.place) (get slab slot)

-- the same, if its wait passes
abbrev pub place_if : (Wait → Bool) → Slab Wait → ℕ → Option ℕ
place_if passes slab slot = option_and_then (λ w. if passes w then Some w.place else None) (get slab slot)

-- each place that waits has a slot that holds its wait, and no other slot is held
pub record AreHeld (slab : Slab Wait) (slots : List (Option ℕ)) : Type 0 where
  pub held : (place slot : ℕ) → slot_at slots place ≡ Some slot → (w : Wait) × (get slab slot ≡ Some w) × (w.place ≡ place)
  pub placed : (slot : ℕ) (w : Wait) → get slab slot ≡ Some w → slot_at slots w.place ≡ Some slot

-- slots and their lists
pub record IsKept (wheel : WheelView Wait) (slots : List (Option ℕ)) (count : ℕ) : Type 0 where
  pub slots_held : AreHeld wheel.slots slots
  pub all_buckets : length wheel.waiting ≡ 4096
  pub buckets : AreListed wheel.slots (λ w. ahead_of count w.due) (due_after wheel)
  pub links : AreListed wheel.slots (λ w. w.link) (list_at wheel.link)
  pub cards : AreListed wheel.slots (λ w. option_map ending w.card) (list_at wheel.card)

-- so many more requests may begin to wait without memory
pub record HasRoom (room : ℕ) (wheel : WheelView Wait) (len capacity : ℕ) : Type 0 where
  pub in_wheel : HasRoomFor wheel.slots room
  pub in_slots : len + room ≤ capacity
  pub all_links : length wheel.link.lists ≡ 256
  pub all_endings : length wheel.card.lists ≡ 1000
