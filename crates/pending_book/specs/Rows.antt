-- What contracts see of a node's requests.
use Rattle.std.specs.Prelude.{◌≡◌, ◌==◌, ℕ, List, [], ◌∷◌, ◌++◌, Bool, true, false, ◌&&◌, ◌||◌, if◌then◌else◌, length, slice_get, Option, Some, None, is_some, is_none, ⊤}
use Rattle.std.specs.Cmp.Lexicographic.{pointwise}
use Rattle.std.specs.Option.{option_map_or}
use Rattle.card_digits.specs.declared.key.Key.{Key}
use Rattle.std.specs.Result.{result_ok}
use Rattle.card_digits.specs.Reading.{read_digits}
use Rattle.iso_message.specs.Fields.{Fields, el}
use Rattle.message_elements.specs.Groups.{is_request, is_answer}
use Rattle.message_keys.specs.Keys.{key_of}
use Rattle.iso_message.specs.Made.{has_own_key}
use Rattle.network_law.specs.Traces.{Source, Gate, ByLink, is_link}
use Rattle.node_machine.specs.Lists.{Row, Mark, of_key, row_key, row_pending}
use Rattle.request_slots.specs.Waits.{places_among}
use Rattle.pending_book.specs.Waits.{WaitsView}

-- a source is the gate, or a link
abbrev pub source_of : Option ℕ → Source
source_of None = Gate
source_of (Some l) = ByLink l

-- the key of a request that is kept beside it
pub record IsKeyOf (key : Key) (m : Fields) : Type 0 where
  pub key_is : key ≡ key_of m
  pub own : has_own_key m ≡ true
  pub request : is_request m.kind ≡ true

-- the card of a message: none where element 2 is absent or is none
abbrev pub card_in : Fields → Option (List ℕ)
card_in m = result_ok (read_digits 8 19 (el m 2))

-- an answer of this key
abbrev pub IsAnswerOf : Key → Option Fields → Type 0
IsAnswerOf key None = ⊤
IsAnswerOf key (Some a) = (key ≡ key_of a) × (is_answer a.kind ≡ true)

-- each key has one row
abbrev pub IsUnique : List Row → Type 0
IsUnique [] = ⊤
IsUnique (r ∷ rs) = (of_key (row_key r) rs ≡ None) × IsUnique rs

-- a row of a key that has none yet
abbrev pub opened : Row → List Row → List Row
opened r rows = if is_none (of_key (row_key r) rows) then rows ++ r ∷ [] else rows

-- requests and marks; for how many ticks requests wait, and how many went by; what the last of them looked at; and how many more changes need
-- no memory
pub record Pending : Type 0 where
  pub rows : List Row
  pub marks : List Mark
  pub waits : WaitsView
  pub count : ℕ
  pub visits : ℕ
  pub room : ℕ

-- pending, and put on this link
abbrev pub waits_on : ℕ → Row → Bool
waits_on l r = row_pending r && is_link l r.link

-- pending, of this card, and put on a link or asked of the host
abbrev pub waits_of : List ℕ → Row → Bool
waits_of card r = row_pending r && ((is_some r.link || r.asked) && option_map_or (λ own. pointwise ◌==◌ own card) (card_in r.message) false)

-- the places of the requests that pass a test, in opening order
abbrev pub places_where : (Row → Bool) → List Row → List ℕ
places_where p rows = places_among (length rows) (slice_get rows) p
