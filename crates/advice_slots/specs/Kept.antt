-- How the items are kept.
use Rattle.std.specs.Prelude.{◌≡◌, ◌⊎◌, ◌≤◌, ◌<◌, ◌+◌, ◌-◌, ◌%◌, ◌^◌, ℕ, Bool, true, false, not, ◌&&◌, ◌==◌, min, nat_lt, List, [], filter, filter_map, length, Option, Some, None, if◌then◌else◌}
use Rattle.std.specs.List.{list_any}
use Rattle.std.specs.Map.{lookup}
use Rattle.slab.specs.Slab.{Slab, get, slab_len, ContainsKey}
use Rattle.chain_links.specs.Lists.{Among, list_at}
use Rattle.tick_wheel.specs.Wheel.{WheelView, due_after}
use Rattle.slot_chains.specs.Chains.{IsListed}
use Rattle.advice_slots.specs.declared.item.Held.{Held}
use Rattle.advice_slots.specs.declared.item.ItemName.{ItemName}
use Rattle.advice_slots.specs.declared.item.ItemName.TheVariants as names
use Rattle.advice_slots.specs.declared.wanted.Wanted.{Wanted}
use Rattle.advice_slots.specs.declared.wanted.Wanted.TheVariants as wanted
use Rattle.advice_slots.specs.Items.{AreBefore, is_lent, is_named, name_eq, name_of, was_put}

-- the item is looked for
abbrev pub wants : Wanted → Held → Bool
wants (wanted.Item n) x = is_named n x
wants (wanted.Put id) x = was_put id x
wants (wanted.NotPut id) x = is_named (names.Advice id) x && not (was_put id x)
wants (wanted.Lent lender number) x = is_lent lender number x

-- the name of all that is looked for
abbrev pub name_wanted : Wanted → ItemName
name_wanted (wanted.Item n) = n
name_wanted (wanted.Put id) = names.Advice id
name_wanted (wanted.NotPut id) = names.Advice id
name_wanted (wanted.Lent lender number) = names.Grant number

-- a slot's item is looked for
abbrev pub wants_at : Wanted → Option Held → Bool
wants_at w None = false
wants_at w (Some x) = wants w x

-- the items in these slots
abbrev pub items_in : Slab Held → List ℕ → List Held
items_in s slots = filter_map (get s) slots

-- the slots of all items in the order of storing, the items in them, after how many ticks an item is due again, the class that is due at
-- the next tick, and what the last tick looked at
pub record HeldView : Type 0 where
  pub slots : Slab Held
  pub order : List ℕ
  pub ticks : ℕ
  pub turn : ℕ
  pub visits : ℕ

-- the items in the order of storing
abbrev pub items_of : HeldView → List Held
items_of v = items_in v.slots v.order

-- a slot of the order has an item that is looked for
pub record IsFound (w : Wanted) (s : Slab Held) (order : List ℕ) (slot : ℕ) : Type 0 where
  pub item : Held
  pub among : Among slot order
  pub here : get s slot ≡ Some item
  pub wanted : wants w item ≡ true

-- the slots of all items in the order of storing
abbrev pub order : WheelView Held → List ℕ
order w = list_at w.card 0

-- an item stored at a count of this class
abbrev pub in_class : ℕ → ℕ → Option Held → Bool
in_class ticks class None = false
in_class ticks class (Some x) = x.count % ticks == class

-- the class whose turn comes so many ticks after the turn of another
abbrev pub class_after : ℕ → ℕ → ℕ → ℕ
class_after ticks turn ahead = if nat_lt (turn + ahead) ticks then turn + ahead else turn + ahead - ticks

-- so many ticks after the next one a class is due whose turn comes then
abbrev pub due_class : WheelView Held → ℕ → ℕ → ℕ → List ℕ
due_class w ticks turn ahead = if nat_lt ahead ticks then list_at w.link (class_after ticks turn ahead) else []

-- a class has a list once there is room for an item
abbrev pub HasClasses : WheelView Held → ℕ → Type 0
HasClasses w ticks = (length w.link.lists ≡ ticks) ⊎ ((w.link.lists ≡ []) × (w.slots.capacity ≡ 0))

-- each class is due when its turn comes
pub record IsTurning (w : WheelView Held) (ticks turn : ℕ) : Type 0 where
  pub some : 1 ≤ ticks
  pub few : ticks ≤ 4000
  pub within : turn < ticks
  pub heads : HasClasses w ticks
  pub buckets : length w.waiting ≡ 4096
  pub waiting : (ahead : ℕ) → due_after w ahead ≡ due_class w ticks turn ahead

-- each slot that is held stands in the order and in the class of its item, and no other does
pub record AreListed (w : WheelView Held) (ticks : ℕ) : Type 0 where
  pub heads : length w.card.lists ≡ 1
  pub held : (slot : ℕ) → Among slot (order w) → ContainsKey w.slots slot
  pub all : (slot : ℕ) → ContainsKey w.slots slot → Among slot (order w)
  pub classes : (class : ℕ) → class < ticks → list_at w.link class ≡ filter (λ slot. in_class ticks class (get w.slots slot)) (order w)

-- so much of the order is looked through, without an item that is looked for
pub record IsLooked (w : Wanted) (s : Slab Held) (all : List ℕ) (count : ℕ) (cursor : Option ℕ) : Type 0 where
  pub found : List ℕ
  pub listed : IsListed all found cursor
  pub counted : length found ≡ count
  pub none : list_any (wants w) (items_in s found) ≡ false

-- each item is found by its key
pub record ArePlaced (v : HeldView) (places : List (ItemName × ℕ)) : Type 0 where
  pub placed : (slot : ℕ) (x : Held) → Among slot v.order → get v.slots slot ≡ Some x → lookup (name_eq (name_of x)) places ≡ Some slot
  pub own : (k : ItemName) (slot : ℕ) → lookup (name_eq k) places ≡ Some slot → IsFound (wanted.Item k) v.slots v.order slot

-- for how many items there is memory, where the map of names has so much to spare
abbrev pub room_in : ℕ → Slab Held → ℕ
room_in spare s = min spare (s.capacity - slab_len s)

-- each item is found by its name, unless several have one, and all were stored before the next tick
pub record AreHeld (v : HeldView) (several : Bool) (places : List (ItemName × ℕ)) (count : ℕ) : Type 0 where
  pub some : 1 ≤ v.ticks
  pub few : v.ticks ≤ 4000
  pub single : several ≡ false → ArePlaced v places
  pub early : count ≤ 2 ^ 63
  pub turn : v.turn ≡ (count + 1) % v.ticks
  pub past : count < 2 ^ 63 → AreBefore (count + 1) (items_of v)
