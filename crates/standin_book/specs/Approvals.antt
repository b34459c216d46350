-- Own approvals, and how they are kept.
use Rattle.std.specs.Prelude.{◌≤◌, ◌+◌, ℕ, zero, suc, Bool, false, not, ◌&&◌, ◌==◌, nat_lt, min, if◌then◌else◌, List, filter}
use Rattle.card_digits.specs.declared.key.Key.{Key}
use Rattle.message_keys.specs.Keys.{key_eq}
use Rattle.network_law.specs.Traces.{added}
use Rattle.node_machine.specs.Lists.{Take, in_use}
use Rattle.book_index.specs.Found.{found, holds_at, Tells}
use Rattle.book_index.specs.declared.index.Place.{Place}
use Rattle.book_index.specs.declared.index.Place.TheVariants as places
use Rattle.standin_book.specs.Sums.{AreSums}
use Rattle.book_index.specs.declared.card_day.CardDay.{CardDay}

-- own approvals, and how many more need no memory
pub record Approvals : Type 0 where
  pub takes : List Take
  pub room : ℕ

-- what this key took counts for no more than an amount
abbrev pub lessened : Key → ℕ → Take → Take
lessened k actual a = record { key = a.key; card = a.card; date = a.date; amount = a.amount; left = if key_eq k a.key then min actual a.left else a.left }

abbrev pub day_of : Take → CardDay
day_of a = record { card = a.card; date = a.date }

abbrev pub used_on : CardDay → Take → ℕ
used_on day a = in_use day.card day.date a

abbrev pub is_of : Key → Take → Bool
is_of k a = key_eq k a.key

abbrev pub one_of : Key → Take → ℕ
one_of k a = if is_of k a then 1 else 0

-- how often the key took
abbrev pub times : Key → List Take → ℕ
times k takes = added (one_of k) takes

-- the approvals of other keys, in their order
abbrev pub without : Key → List Take → List Take
without k takes = filter (λ a. not (is_of k a)) takes

-- the key took this, and it counts for more than an amount
abbrev pub counts_above : Key → ℕ → Take → Bool
counts_above k actual a = is_of k a && nat_lt actual a.left

-- the key took this, and nothing of it was given back
abbrev pub is_whole : Key → Take → Bool
is_whole k a = is_of k a && a.left == a.amount

-- the places behind a gap, where nothing is, are one later
abbrev pub skips : ℕ → (ℕ → Bool) → ℕ → Bool
skips zero has zero = false
skips zero has (suc i) = has i
skips (suc gap) has zero = has zero
skips (suc gap) has (suc i) = skips gap (λ j. has (suc j)) i

-- a place that is known becomes another
abbrev pub moved : ℕ → Place → Place
moved i places.Nowhere = places.Nowhere
moved i (places.At j) = places.At i
moved i places.Several = places.Several

pub record IsBook (takes : List Take) (places : List (Key × Place)) (sums : List (CardDay × ℕ)) (room len capacity places_room sums_room : ℕ) : Type 0 where
  pub placed : (k : Key) → Tells (found (key_eq k) places) (holds_at (is_of k) takes)
  pub summed : AreSums used_on takes sums
  pub in_takes : len + room ≤ capacity
  pub in_places : room ≤ places_room
  pub in_sums : room ≤ sums_room
