-- What requests wait for.
use Rattle.std.specs.Prelude.{ℕ, ◌==◌, count_by, Bool, List, filter, length, map, Option, None, false, slice_index_or, slice_set}
use Rattle.std.specs.List.{range_with_len}
use Rattle.std.specs.Option.{option_map_or, option_and_then}
use Rattle.std.specs.Cmp.Lexicographic.{pointwise}
use Rattle.slab.specs.Slab.{Slab, get}
use Rattle.request_slots.specs.declared.wait.Wait.{Wait}

-- for each place the wait of its request, if it waits; how many ticks went by; how many slots and ends of lists the last of them looked
-- at; and how many more requests may begin to wait
pub record SlotsView : Type 0 where
  pub waits : List (Option Wait)
  pub count : ℕ
  pub visits : ℕ
  pub room : ℕ

-- the wait of the request at a place
abbrev pub wait_at : List (Option Wait) → ℕ → Option Wait
wait_at waits place = slice_index_or waits place None

-- with another wait at a place, or none
abbrev pub with_wait : List (Option Wait) → ℕ → Option Wait → List (Option Wait)
with_wait waits place wait = slice_set waits place wait

-- the waits of some slots
abbrev pub held_waits : Slab Wait → List (Option ℕ) → List (Option Wait)
held_waits slab slots = map (λ slot. option_and_then (get slab) slot) slots

-- of so many places those at which something stands that passes, in their order
abbrev pub places_among : {A : Type 0} → ℕ → (ℕ → Option A) → (A → Bool) → List ℕ
places_among count at passes = filter (λ place. option_map_or passes (at place) false) (range_with_len 0 count)

-- the places whose waits pass
abbrev pub places_where : (Wait → Bool) → List (Option Wait) → List ℕ
places_where passes waits = places_among (length waits) (wait_at waits) passes

-- due at this count of ticks
abbrev pub is_due : ℕ → Wait → Bool
is_due count w = option_map_or (λ due. due == count) w.due false

-- put on this link
abbrev pub is_on : ℕ → Wait → Bool
is_on link w = option_map_or (λ own. own == link) w.link false

-- of this card
abbrev pub is_of : List ℕ → Wait → Bool
is_of card w = option_map_or (λ own. pointwise ◌==◌ own card) w.card false

-- so many requests wait that are due at this count of ticks
abbrev pub count_due : ℕ → List (Option Wait) → ℕ
count_due count waits = count_by (λ w. option_map_or (is_due count) w false) waits
