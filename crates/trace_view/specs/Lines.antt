-- What the lines of a printed trace say.
use Rattle.std.specs.Prelude.{ℕ, List, codes, bytes_eq, Result, Ok, Err, if◌then◌else◌}
use Rattle.std.specs.Borrow.{Bor}
use Rattle.card_digits.specs.Attempts.{◌>>=◌}
use Rattle.net_rows.specs.Network.{Network}
use Rattle.replay_script.specs.Words.{word_and_rest, number_of}
use Rattle.replay_script.specs.Lines.{node_of, own_link}
use Rattle.trace_view.specs.declared.fault.LineFault.{LineFault}
use Rattle.trace_view.specs.declared.fault.LineFault.TheVariants.{Malformed, UnknownNode, UnknownLink}
use Rattle.trace_view.specs.declared.line.Step.{Step}
use Rattle.trace_view.specs.declared.line.Way.{Way}
use Rattle.trace_view.specs.declared.line.Way.TheVariants as ways
use Rattle.trace_view.specs.Faults.{ok_or}

-- the number of a script's line and the name of its node
abbrev pub step_line : Network → List ℕ → Result Step LineFault
step_line t line = do
  p ← ok_or (word_and_rest line) Malformed
  number ← ok_or (number_of 10 p.0) Malformed
  node ← ok_or (node_of t p.1) UnknownNode
  Ok (record { number = number; node = node })

-- a way, and the bytes that go it
abbrev pub Sent : Type 0
Sent = Way × List ℕ

abbrev pub seen : Way × Bor (List ℕ) → Sent
seen p = (p.0, p.1.now)

-- behind the word `put`: a link of the node, a serial and bytes
abbrev pub put_line : Network → ℕ → List ℕ → Result Sent LineFault
put_line t node rest = do
  p ← ok_or (word_and_rest rest) Malformed
  q ← ok_or (word_and_rest p.1) Malformed
  serial ← ok_or (number_of 10 q.0) Malformed
  link ← ok_or (own_link t node p.0) UnknownLink
  Ok (ways.Put link serial, q.1)

-- behind the word `ask`: a number and bytes
abbrev pub ask_line : List ℕ → Result Sent LineFault
ask_line rest = do
  p ← ok_or (word_and_rest rest) Malformed
  number ← ok_or (number_of 10 p.0) Malformed
  Ok (ways.Ask number, p.1)

abbrev pub by_word : Network → ℕ → List ℕ → List ℕ → Result Sent LineFault
by_word t node word rest =
    if bytes_eq word (codes "put") then put_line t node rest
    else if bytes_eq word (codes "answer") then Ok (ways.Answer, rest)
    else if bytes_eq word (codes "ask") then ask_line rest
    else if bytes_eq word (codes "post") then Ok (ways.Post, rest)
    else Err Malformed

-- what went out of a node, behind the two spaces of its line
abbrev pub output_line : Network → ℕ → List ℕ → Result Sent LineFault
output_line t node line = do
  p ← ok_or (word_and_rest line) Malformed
  by_word t node p.0 p.1
