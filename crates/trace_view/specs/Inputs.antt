-- What came in, as the lines of a script say.
use Rattle.std.specs.Prelude.{ℕ, ◌-◌, ◌==◌, List, ◌++◌, map, codes, slice_get, if◌then◌else◌, Option, Some, None, option_and_then, Result, Ok}
use Rattle.std.specs.Borrow.{Bor}
use Rattle.card_digits.specs.Attempts.{◌>>=◌}
use Rattle.net_rows.specs.Network.{Network}
use Rattle.replay_script.specs.Lines.{Event, Enter, HostAnswer, Said, read_line}
use Rattle.bundle_text.specs.Lines.{Text, line_feed}
use Rattle.trace_view.specs.declared.fault.LineFault.{LineFault}
use Rattle.trace_view.specs.declared.fault.LineFault.TheVariants.{NoMessage, NotInScript}
use Rattle.trace_view.specs.declared.line.Step.{Step}
use Rattle.trace_view.specs.declared.packet.Packet.{Packet}
use Rattle.trace_view.specs.Faults.{ok_or}
use Rattle.trace_view.specs.Packets.{message_in}
use Rattle.trace_view.specs.Rows.{cell, front, packet_text, step_row}
use Rattle.trace_view.specs.Words.{code_words}

-- the lines of a script, where there is one
abbrev pub lines_now : Option (Bor (List (Bor (List ℕ)))) → Option (List (List ℕ))
lines_now None = None
lines_now (Some lines) = Some (map (λ line. line.now) lines.now)

-- the line of this number, counted from 1
abbrev pub line_at : List (List ℕ) → ℕ → Option (List ℕ)
line_at script n = if n == 0 then None else slice_get script (n - 1)

-- where it speaks of this node
abbrev pub of_node : ℕ → Said → Option Said
of_node n s = if s.node == n then Some s else None

-- what a line of a script says, where it speaks of this node
abbrev pub said_at : Network → ℕ → List ℕ → Option Said
said_at t n line = option_and_then (of_node n) (read_line t line)

-- a line of the script came in; and more words
abbrev pub said_text : List ℕ → Text → Text
said_text line words = codes "in " ++ line ++ words ++ line_feed

abbrev pub said_row : Network → Step → List ℕ → Text → Text
said_row t s line words = front t s ++ said_text line words

-- a message was entered
abbrev pub entered_row : Network → Step → Packet → Text
entered_row t s packet = front t s ++ cell 23 (codes "in enter") ++ packet_text packet ++ line_feed

-- behind rows, that of bytes that were entered
abbrev pub entered_onto : Network → Text → Step → List ℕ → Result Text LineFault
entered_onto t text s bytes = do
  packet ← ok_or (message_in bytes) NoMessage
  Ok (text ++ entered_row t s packet)

-- behind rows, that of an event: a message that is entered is shown as one that goes out, and behind a host's code stand its words
abbrev pub event_onto : Network → Text → Step → List ℕ → Event → Result Text LineFault
event_onto t text s line (Enter bytes) = entered_onto t text s bytes
event_onto t text s line (HostAnswer ask code) = Ok (text ++ said_row t s line (code_words code))
event_onto t text s line event = Ok (text ++ said_row t s line (codes ""))

-- behind rows, that of an input: what the script says of it, where there is a script
abbrev pub input_onto : Network → Option (List (List ℕ)) → Text → Step → Result Text LineFault
input_onto t None text s = Ok (text ++ step_row t s)
input_onto t (Some script) text s = do
  line ← ok_or (line_at script s.number) NotInScript
  said ← ok_or (said_at t s.node line) NotInScript
  event_onto t text s line said.event
