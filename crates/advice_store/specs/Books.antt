-- The store of advices as a plain value.
use Rattle.std.specs.Prelude.{◌≡◌, ◌≤◌, ℕ, ◌+◌, ◌-◌, Bool, ◌&&◌, ◌||◌, not, nat_lt, if◌then◌else◌, List, [], ◌∷◌, ◌++◌, length, map, filter, Option, Some, None}
use Rattle.std.specs.List.{list_any}
use Rattle.std.specs.Option.{option_and_then}
use Rattle.message_keys.specs.declared.keys.AdviceId.{AdviceId}
use Rattle.network_law.specs.declared.grant.Grant.{Grant}
use Rattle.node_machine.specs.Lists.{is_among}
use Rattle.advice_slots.specs.declared.item.Advice.{Advice}
use Rattle.advice_slots.specs.declared.item.Held.{Held}
use Rattle.advice_slots.specs.declared.item.Item.TheVariants as items
use Rattle.advice_slots.specs.declared.item.ItemName.{ItemName}
use Rattle.advice_slots.specs.declared.item.ItemName.TheVariants as names
use Rattle.advice_store.specs.declared.store.StoreFault.{StoreFault}
use Rattle.advice_store.specs.declared.store.StoreFault.TheVariants as faults
use Rattle.advice_store.specs.declared.store.GrantFault.{GrantFault}
use Rattle.advice_store.specs.declared.store.GrantFault.TheVariants as grants
use Rattle.message_keys.specs.Keys.{identity_eq}
use Rattle.advice_slots.specs.Items.{name_of, is_named, is_due, item_of, is_held, marked_by, advice_in, grant_in}

-- the items in stored order, the identities that are known, how many places are reserved, for how many calls there is memory, the ticks
-- after which items are due again, the number of ticks, and what the last tick looked at
pub record Store : Type 0 where
  pub items : List Held
  pub known : List AdviceId
  pub reserved : ℕ
  pub room : ℕ
  pub ticks : ℕ
  pub count : ℕ
  pub visits : ℕ

abbrev pub is_known : Store → AdviceId → Bool
is_known v id = is_among id v.known

-- the places that are taken
abbrev pub load : Store → ℕ
load v = length v.items + v.reserved

abbrev pub advice_of : Store → AdviceId → Option Advice
advice_of v id = option_and_then (λ x. advice_in x.item) (item_of v.items (names.Advice id))

abbrev pub grant_of : Store → ℕ → Option Grant
grant_of v number = option_and_then (λ x. grant_in x.item) (item_of v.items (names.Grant number))

-- the names of the items due at the next tick, in stored order
abbrev pub due_next : Store → List ItemName
due_next v = map name_of (filter (is_due v.ticks (v.count + 1)) v.items)

abbrev pub ticked : Store → Store
ticked v = record v { count = v.count + 1; visits = length (due_next v) + 1 }

-- an advice finds no place of its own
abbrev pub lacks_place : Store → Bool → Bool
lacks_place v reserved = not reserved && not (nat_lt (load v) 65536)

-- why an advice isn't stored, where memory is there
abbrev pub refusal : Store → AdviceId → Bool → Option StoreFault
refusal v id reserved = if lacks_place v reserved then Some faults.Full else if is_known v id then Some faults.Known else None

-- why a grant isn't stored, where memory is there
abbrev pub grant_refusal : Store → ℕ → Option GrantFault
grant_refusal v number = if is_held v.items (names.Grant number) || nat_lt (load v) 65536 then None else Some grants.Full

abbrev pub noted : Store → AdviceId → Store
noted v id = record v { known = v.known ++ id ∷ []; room = v.room - 1 }

abbrev pub stored : Store → Advice → Bool → Store
stored v a reserved = record v { items = v.items ++ record { item = items.Advice a; count = v.count } ∷ []; known = v.known ++ a.id ∷ []; reserved = if reserved then v.reserved - 1 else v.reserved; room = v.room - 1 }

-- a grant whose number is held already stays as it is
abbrev pub lent : Store → Grant → Store
lent v g = if is_held v.items (names.Grant g.number) then v else record v { items = v.items ++ record { item = items.Grant (record { grant = g; borrower = None }); count = v.count } ∷ []; room = v.room - 1 }

abbrev pub without_item : Store → ItemName → Store
without_item v n = record v { items = filter (λ x. not (is_named n x)) v.items }

abbrev pub put_marked : Store → AdviceId → Store
put_marked v id = record v { items = map (marked_by id) v.items }

-- the places that are reserved are places of the store, and both parts have the room
pub record IsStore (reserved room slots_room known_room : ℕ) : Type 0 where
  pub fits : reserved ≤ 65536
  pub slots_fit : room ≤ slots_room
  pub known_fit : room ≤ known_room

-- the identities that are known, and for how many there is memory
pub record KnownView : Type 0 where
  pub ids : List AdviceId
  pub room : ℕ

abbrev pub AreKnown : List AdviceId → List AdviceId → Type 0
AreKnown keys known = (id : AdviceId) → list_any (identity_eq id) keys ≡ is_among id known
