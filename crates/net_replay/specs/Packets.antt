-- Where the packets of a node stand in its trace, by link and serial.
use Rattle.std.specs.Prelude.{ℕ, zero, suc, List, [], ◌∷◌, ◌++◌, slice_get, slice_set, slice_index_or, Option, None, option_and_then}
use Rattle.std.specs.Option.{option_map}
use Rattle.network_law.specs.Cards.{Bytes}
use Rattle.network_law.specs.Entries.{Entry, Output, Put, Answer, Ask, Post}
use Rattle.step_draft.specs.Outputs.{bytes_of}
use Rattle.net_replay.specs.declared.packets.PacketPlace.{PacketPlace}

-- serials count from 1
abbrev pub by_serial : {X : Type 0} → ℕ → List X → Option X
by_serial zero sent = None
by_serial (suc s) sent = slice_get sent s

abbrev pub place_of : List (List PacketPlace) → ℕ → ℕ → Option PacketPlace
place_of links l s = option_and_then (by_serial s) (slice_get links l)

-- the bytes of the output at a place of a trace, of which the oldest entry stands first
abbrev pub bytes_at : List Entry → PacketPlace → Option Bytes
bytes_at trace p = option_and_then (λ (e : Entry). option_map bytes_of (slice_get e.outputs p.output)) (slice_get trace p.entry)

-- one more packet on the link
abbrev pub put_at : List (List PacketPlace) → ℕ → PacketPlace → List (List PacketPlace)
put_at links l place = slice_set links l (slice_index_or links l [] ++ place ∷ [])

-- those among the outputs of an entry from the k-th on
abbrev pub put_all : List (List PacketPlace) → ℕ → ℕ → List Output → List (List PacketPlace)
put_all links entry k [] = links
put_all links entry k (Put l s bytes ∷ os) = put_all (put_at links l (record { entry = entry; output = k })) entry (suc k) os
put_all links entry k (Answer bytes ∷ os) = put_all links entry (suc k) os
put_all links entry k (Ask a bytes ∷ os) = put_all links entry (suc k) os
put_all links entry k (Post bytes ∷ os) = put_all links entry (suc k) os
