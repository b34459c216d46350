-- What somebody who reads a trace comes to, from where he has come on.
use Rattle.std.specs.Prelude.{◌≡◌, ℕ, ◌+◌, ◌<◌, nat_lt, if◌then◌else◌, List, [], ◌∷◌, ◌++◌, length, drop, Option, Some, None, filter_map}
use Rattle.std.specs.List.{flat_map}
use Rattle.network_law.specs.Cards.{Bytes}
use Rattle.network_law.specs.Entries.{Entry, Output, Ask}
use Rattle.plan_state.specs.declared.trace_search.Cursor.{Cursor}
use Rattle.plan_state.specs.declared.wanted.Wanted.{Wanted}
use Rattle.plan_state.specs.Wanted.{answer_to}

-- the outputs of entries, of the first from a place on
abbrev pub outputs_after : ℕ → List Entry → List Output
outputs_after output [] = []
outputs_after output (e ∷ es) = drop output e.outputs ++ flat_map (λ x. x.outputs) es

-- what is looked for among the outputs of a trace, from a cursor on
abbrev pub found_from : {X : Type 0} → (Output → Option X) → List Entry → Cursor → List X
found_from looked trace c = filter_map looked (outputs_after c.output (drop c.entry trace))

-- this is the first that is looked for among outputs from a place on, and stands at that other place
abbrev pub IsFirst : {X : Type 0} → (Output → Option X) → List Output → ℕ → ℕ → X → Type 0
IsFirst looked outputs from place x = (place < length outputs) × (filter_map looked (drop from outputs) ≡ x ∷ filter_map looked (drop (place + 1) outputs))

-- a request to the host, with its number
abbrev pub ask_of : Output → Option (ℕ × Bytes)
ask_of (Ask number bytes) = Some (number, bytes)
ask_of _ = None

abbrev pub asks_from : List Entry → Cursor → List (ℕ × Bytes)
asks_from trace c = found_from ask_of trace c

-- the answers that may be the wanted one
abbrev pub answers_from : Wanted → List Entry → Cursor → List Bytes
answers_from w trace c = found_from (answer_to w) trace c

-- behind an output of an entry that has so many
abbrev pub behind : ℕ → ℕ → ℕ → Cursor
behind entry output count = if nat_lt (output + 1) count then record { entry = entry; output = output + 1 } else record { entry = entry + 1; output = 0 }
