-- The table of a printed trace.
use Rattle.std.specs.Prelude.{ℕ, ◌==◌, ◌+◌, Bool, List, [], ◌∷◌, ◌++◌, take, drop, codes, if◌then◌else◌, Option, Some, None, Result, Ok, Err}
use Rattle.std.specs.Option.{option_map}
use Rattle.std.specs.Cmp.Lexicographic.{pointwise}
use Rattle.card_digits.specs.Attempts.{◌>>=◌}
use Rattle.card_digits.specs.Lines.{lines}
use Rattle.net_rows.specs.Network.{Network}
use Rattle.bundle_text.specs.Lines.{Text}
use Rattle.trace_view.specs.declared.fault.LineFault.{LineFault}
use Rattle.trace_view.specs.declared.fault.LineFault.TheVariants.{NoNode, NoMessage}
use Rattle.trace_view.specs.declared.fault.TraceFault.{TraceFault}
use Rattle.trace_view.specs.declared.line.Step.{Step}
use Rattle.trace_view.specs.Faults.{ok_or}
use Rattle.trace_view.specs.Lines.{Sent, step_line, output_line}
use Rattle.trace_view.specs.Packets.{sent_in}
use Rattle.trace_view.specs.Inputs.{input_onto}
use Rattle.trace_view.specs.Rows.{heading, output_row}

-- the lines of a script, where there is one
abbrev pub Script : Type 0
Script = Option (List (List ℕ))

-- the step that the lines behind may belong to, and the rows so far
abbrev pub Rows : Type 0
Rows = Option Step × Text

-- behind rows, that of an input
abbrev pub step_onto : Network → Script → Text → List ℕ → Result Rows LineFault
step_onto t script text line = do
  step ← step_line t line
  rows ← input_onto t script text step
  Ok (Some step, rows)

-- behind rows, that of bytes that went out
abbrev pub sent_onto : Network → Text → Step → Sent → Result Text LineFault
sent_onto t text step sent = do
  packet ← ok_or (sent_in sent.0 sent.1) NoMessage
  Ok (text ++ output_row t step sent.0 packet)

-- behind rows, that of what went out
abbrev pub output_onto : Network → Text → Step → List ℕ → Result Text LineFault
output_onto t text step line = do
  sent ← output_line t step.node line
  sent_onto t text step sent

-- below a step, which the lines behind may belong to too
abbrev pub below : Network → Text → Option Step → List ℕ → Result Rows LineFault
below t text above line = do
  step ← ok_or above NoNode
  rows ← output_onto t text step line
  Ok (above, rows)

-- two spaces stand before what went out
abbrev pub goes_out : List ℕ → Bool
goes_out line = pointwise ◌==◌ (take 2 line) (codes "  ")

-- behind rows, that of a line below this step
abbrev pub line_onto : Network → Script → Text → Option Step → List ℕ → Result Rows LineFault
line_onto t script text above line = if goes_out line then below t text above (drop 2 line) else step_onto t script text line

-- a fault at the line of this number
abbrev pub at_line : ℕ → Result Rows LineFault → Result Rows TraceFault
at_line n (Ok rows) = Ok rows
at_line n (Err e) = Err (record { fault = e; line = n })

-- behind rows, one for each line from that of this number on, or the first fault
abbrev pub rows_onto : Network → Script → Text → ℕ → Option Step → List (List ℕ) → Result Text TraceFault
rows_onto t script text n above [] = Ok text
rows_onto t script text n above (line ∷ lines) = do
  rows ← at_line n (line_onto t script text above line)
  rows_onto t script rows.1 (n + 1) rows.0 lines

-- the columns, and a row for each line of a trace, or its first fault; of a script all lines are there to be looked up
abbrev pub table_in : Network → Option (List ℕ) → List ℕ → Result Text TraceFault
table_in t script trace = rows_onto t (option_map lines script) heading 1 None (lines trace)
