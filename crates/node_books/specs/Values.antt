-- What contracts see of the books' rows.
use Rattle.std.specs.Prelude.{◌≤◌, ◌+◌, ◌^◌, ℕ, List, map, Bool, ◌&&◌, not, if◌then◌else◌, Option, Some, None}
use Rattle.card_digits.specs.declared.key.Key.{Key}
use Rattle.iso_message.specs.Fields.{Fields}
use Rattle.message_elements.specs.Groups.{is_04xx}
use Rattle.message_keys.specs.Keys.{key_of, key_eq}
use Rattle.node_machine.specs.Counts.{PutsAreWithin}
use Rattle.net_rows.specs.declared.row.Link.{Link}
use Rattle.node_machine.specs.Lists.{Lists, leaves}
use Rattle.pending_book.specs.Waits.{WaitsView}

-- an advice that was made here, or accepted; whether this node is the home of its card, and whether it was put
pub record NewAdvice : Type 0 where
  pub message : Fields
  pub count : ℕ
  pub own : Bool
  pub home : Bool
  pub put : Bool

-- what an accepted reversal of this key leaves
abbrev pub leaves_of : Key → NewAdvice → Option ℕ
leaves_of k a = if not a.own && is_04xx a.message.kind && key_eq (key_of a.message) k then Some (leaves a.message) else None

-- books, and how many changes more need no memory
pub record Roomy : Type 0 where
  pub lists : Lists
  pub room : ℕ

-- each book has room for as much
pub record HasRooms (room pending standin advices lending len capacity : ℕ) : Type 0 where
  pub in_pending : room ≤ pending
  pub in_standin : room ≤ standin
  pub in_advices : room ≤ advices
  pub in_lending : room ≤ lending
  pub in_asks : len + room ≤ capacity

-- on no link was put more than 2^62 times, and there were no more ticks
pub record AreFew (x : Lists) : Type 0 where
  pub puts : PutsAreWithin (2 ^ 62) x.links
  pub ticks : x.count ≤ 2 ^ 62

-- how long requests wait in a network with these links and this wait for the host
abbrev pub waits_in : List Link → ℕ → WaitsView
waits_in links host = record { links = map (λ l. l.ticks) links; host = host }
