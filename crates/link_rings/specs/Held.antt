-- Packets that are held back, by incoming rings, in the order in which they were taken.
use Rattle.std.specs.Prelude.{ℕ, ◌+◌, min, max, ◌^◌, ◌-◌, List, [], ◌∷◌, ◌++◌, Option, Some, None, option_and_then, if◌then◌else◌, nat_le, nat_lt, length, slice_get, slice_set, slice_index_or}
use Rattle.turn_clock.specs.Sooner.{sooner}
use Rattle.link_rings.specs.Rings.{PacketView}

pub record WaitingView : Type 0 where
  pub due : ℕ
  pub packet : PacketView

pub record HeldView : Type 0 where
  pub turn : ℕ
  pub rings : List (List WaitingView)

-- the first packet of a ring, where its turn has come
abbrev pub first_due : ℕ → List WaitingView → Option PacketView
first_due turn [] = None
first_due turn (w ∷ ws) = if nat_le w.due turn then Some w.packet else None

abbrev pub behind_due : ℕ → List WaitingView → List WaitingView
behind_due turn [] = []
behind_due turn (w ∷ ws) = if nat_le w.due turn then ws else w ∷ ws

abbrev pub due_packet : ℕ → HeldView → Option PacketView
due_packet k h = option_and_then (first_due h.turn) (slice_get h.rings k)

abbrev pub without_due : ℕ → HeldView → HeldView
without_due k h = record { turn = h.turn; rings = slice_set h.rings k (behind_due h.turn (slice_index_or h.rings k [])) }

-- as later as a number of eight bytes can say
abbrev pub later : ℕ → ℕ → ℕ
later turn turns = min (turn + turns) (2 ^ 64 - 1)

-- how many turns it takes until the first packet of a ring is taken, one at least
abbrev pub turns_to_first : ℕ → List WaitingView → Option ℕ
turns_to_first turn [] = None
turns_to_first turn (w ∷ ws) = Some (max 1 (w.due - turn))

-- the least of a number of turns and of those that it takes until the first packet of one of these rings is taken
abbrev pub turns_from : Option ℕ → ℕ → List (List WaitingView) → Option ℕ
turns_from first turn [] = first
turns_from first turn (r ∷ rs) = turns_from (sooner first (turns_to_first turn r)) turn rs

-- how many turns it takes until a packet is taken
abbrev pub turns_to_due : HeldView → Option ℕ
turns_to_due h = turns_from None h.turn h.rings

-- one packet more is held, or it is lost where 64 are
abbrev pub held_in : ℕ → PacketView → List WaitingView → List WaitingView
held_in due p ws = if nat_lt (length ws) 64 then ws ++ record { due = due; packet = p } ∷ [] else ws

-- likewise of a ring, for so many turns
abbrev pub with_held : ℕ → ℕ → PacketView → HeldView → HeldView
with_held k turns p h = record { turn = h.turn; rings = slice_set h.rings k (held_in (later h.turn turns) p (slice_index_or h.rings k [])) }
