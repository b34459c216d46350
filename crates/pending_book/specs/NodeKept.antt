-- What a book of requests keeps beside its lists.
use Rattle.std.specs.Prelude.{◌≡◌, ◌&&◌, ◌||◌, ◌+◌, ◌<◌, ◌≤◌, ℕ, suc, min, slice_get, length, List, [], ◌∷◌, Bool, true, false, if◌then◌else◌, Option, Some, None, is_some, count_by}
use Rattle.std.specs.Map.{lookup}
use Rattle.std.specs.Option.{option_map}
use Rattle.card_digits.specs.declared.key.Key.{Key}
use Rattle.message_keys.specs.Keys.{key_eq}
use Rattle.node_machine.specs.Lists.{Row, Mark, row_has, row_pending, is_marked, left_marks}
use Rattle.pending_book.specs.declared.node.Standing.{Standing}
use Rattle.request_slots.specs.declared.wait.Wait.{Wait}
use Rattle.request_slots.specs.Waits.{SlotsView, wait_at}
use Rattle.pending_book.specs.Waits.{WaitsView, waits_by}
use Rattle.pending_book.specs.Rows.{IsUnique, card_in}

-- the place of the request of a key
abbrev pub place_of : Key → List Row → Option ℕ
place_of k [] = None
place_of k (r ∷ rs) = if row_has k r then Some 0 else option_map (λ i. suc i) (place_of k rs)

abbrev pub bit : Bool → ℕ
bit true = 1
bit false = 0

-- no more than what is kept, if there is something
abbrev pub at_most : Option ℕ → ℕ → ℕ
at_most None amount = amount
at_most (Some least) amount = min least amount

-- marks, and how many more need no memory
pub record MarksView : Type 0 where
  pub marks : List Mark
  pub room : ℕ

-- the least actual amount of each marked key
pub record AreLeast (marks : List Mark) (least : List (Key × ℕ)) : Type 0 where
  pub marked : (k : Key) → is_some (lookup (key_eq k) least) ≡ is_marked k marks
  pub left : (k : Key) (amount : ℕ) → at_most (lookup (key_eq k) least) amount ≡ left_marks k marks amount

-- the request has no answer, and was put on a link or asked of the host
abbrev pub is_waiting : Row → Bool
is_waiting r = row_pending r && (is_some r.link || r.asked)

-- what a request waits for, as far as its row says it
abbrev pub standing_of : Row → Standing
standing_of r = record { link = r.link; asked = r.asked; is_open = row_pending r }

-- the same request, opened at the same count
pub record IsSameRequest (r s : Row) : Type 0 where
  pub message : r.message ≡ s.message
  pub count : r.count ≡ s.count

-- the tick at which a request is due stands in its wait, if it is to come
abbrev pub IsTimed : WaitsView → ℕ → Row → Wait → Type 0
IsTimed w count r v = (ticks : ℕ) → waits_by w r.link r.asked ≡ Some ticks → count < r.count + ticks → v.due ≡ Some (r.count + ticks)

-- a wait that is due at a tick is due when its request's time is over
abbrev pub IsDueInTime : WaitsView → Row → Wait → Type 0
IsDueInTime w r v = (due : ℕ) → v.due ≡ Some due → (ticks : ℕ) × (waits_by w r.link r.asked ≡ Some ticks) × (r.count + ticks ≡ due)

-- a request that waits has its wait at its place, and another has none
pub record HasWait (w : WaitsView) (count : ℕ) (timely : Bool) (r : Row) (wait : Option Wait) : Type 0 where
  pub waits : is_waiting r ≡ true → (v : Wait) × (wait ≡ Some v) × (v.link ≡ r.link) × (v.card ≡ card_in r.message) × (timely ≡ true → IsTimed w count r v) × IsDueInTime w r v
  pub rests : is_waiting r ≡ false → wait ≡ None

-- a request that stood so before and had the old wait has the new one now, and the ticks of all are known where they were known before and
-- its own is
abbrev pub WaitsAnew : WaitsView → ℕ → Standing → Row → Bool → Option Wait → Option Wait → Type 0
WaitsAnew w count before row known old new = (timely : Bool) (r : Row) → IsSameRequest r row → standing_of r ≡ before → HasWait w count timely r old → HasWait w count (timely && known) row new

-- each request of some is waited for at its place
pub record AreWaiting (w : WaitsView) (count : ℕ) (timely : Bool) (rows : List Row) (waits : List (Option Wait)) : Type 0 where
  pub each : (k : ℕ) (r : Row) → slice_get rows k ≡ Some r → HasWait w count timely r (wait_at waits k)
  pub places : length waits ≡ length rows

-- each key's request by its place, the number of the pending ones, and what they wait for
pub record AreKept (rows : List Row) (places : List (Key × ℕ)) (pending : ℕ) (w : WaitsView) (slots : SlotsView) (timely : Bool) : Type 0 where
  pub unique : IsUnique rows
  pub keyed : (k : Key) → lookup (key_eq k) places ≡ place_of k rows
  pub counted : pending ≡ count_by row_pending rows
  pub waiting : AreWaiting w slots.count timely rows slots.waits

-- a growth of each list and map needs no memory; a request that is opened takes a place and a wait
pub record HasRoom (room len capacity spare marks slots : ℕ) : Type 0 where
  pub rows : len + room ≤ capacity
  pub places : room ≤ spare
  pub in_marks : room ≤ marks
  pub in_slots : room + room ≤ slots
