-- What is kept of the changes after the first few.
use Rattle.std.specs.Prelude.{◌≡◌, ◌≤◌, ◌+◌, ◌==◌, ℕ, suc, Bool, true, false, List, Option, Some, None, length, unwrap_or, if◌then◌else◌}
use Rattle.std.specs.Map.{lookup}
use Rattle.message_keys.specs.declared.keys.AdviceId.{AdviceId}
use Rattle.message_keys.specs.Keys.{identity_of, identity_eq}
use Rattle.card_digits.specs.declared.key.Key.{Key}
use Rattle.network_law.specs.Traces.{is_put_of}
use Rattle.node_machine.specs.Lists.{LinkState}
use Rattle.node_books.specs.declared.effect.Effect.{Effect}
use Rattle.node_books.specs.declared.effect.Effect.TheVariants as effects
use Rattle.kept_messages.specs.Ways.{is_put}
use Rattle.entry_changes.specs.declared.advice_places.AdvicePlaces.{AdvicePlaces}
use Rattle.book_index.specs.Found.{found, holds_at, Tells}
use Rattle.entry_changes.specs.SoFar.{link_from, forward_from, count_from}
use Rattle.entry_changes.specs.declared.so_far.Forwarding.{Forwarding}
use Rattle.entry_changes.specs.declared.link_moves.LinkMove.{LinkMove}
use Rattle.entry_changes.specs.declared.late.LateChanges.{LateChanges}

-- so many changes are gone through one by one
abbrev pub few : ℕ
few = 8

abbrev pub unmoved : LinkMove
unmoved = record { up = None; puts = 0 }

-- what is kept of a link
abbrev pub move_at : ℕ → List (ℕ × LinkMove) → LinkMove
move_at l moves = unwrap_or (lookup (λ k. l == k) moves) unmoved

-- with one put more
abbrev pub put_once : LinkMove → LinkMove
put_once m = record { up = m.up; puts = suc m.puts }

-- up or down from here
abbrev pub set_up : Bool → LinkMove → LinkMove
set_up up m = record { up = Some up; puts = m.puts }

abbrev pub move_step : ℕ → Effect → LinkMove → LinkMove
move_step l (effects.Sent o) m = if is_put l o then put_once m else m
move_step l (effects.PacketSent k s p) m = if k == l then put_once m else m
move_step l (effects.LinkIs k up) m = if k == l then set_up up m else m
move_step l e m = m

-- a link after it
abbrev pub moved : LinkMove → LinkState → LinkState
moved m x = record { up = unwrap_or m.up x.up; serial = x.serial + m.puts }

-- a change says something of an advice
abbrev pub touches : AdviceId → Effect → Bool
touches id (effects.Sent o) = is_put_of id o
touches id (effects.Kept a) = identity_eq (identity_of a.message) id
touches id (effects.Acknowledged other) = identity_eq id other
touches id e = false

abbrev pub touched : AdviceId → Option AdviceId → Bool
touched id None = false
touched id (Some k) = identity_eq k id

-- no request came or was put on a link, and no tick went by
pub record ArePlain (es : List Effect) : Type 0 where
  pub forwards : (k : Key) (s : Forwarding) → forward_from k es s ≡ s
  pub counts : (n : ℕ) → count_from es n ≡ n

-- the places of those that say something of an advice
abbrev pub AreTold : List Effect → AdvicePlaces → Type 0
AreTold es advices = (id : AdviceId) → Tells (found (identity_eq id) advices.index.places.entries) (holds_at (touches id) es)

pub record AreLate (es : List Effect) (late : LateChanges) : Type 0 where
  pub links : (l : ℕ) (x : LinkState) → link_from l es x ≡ moved (move_at l late.moves.moves.entries) x
  pub puts : (l : ℕ) → (move_at l late.moves.moves.entries).puts ≤ length es
  pub advices : AreTold es late.advices
  pub plain : late.plain ≡ true → ArePlain es
