-- What is answered to an input.
use Rattle.std.specs.Prelude.{◌≡◌, ◌⊎◌, true, List, ℕ, [], ◌∷◌, Option, Some, None, Result, Ok, Err}
use Rattle.net_rows.specs.Network.{Network}
use Rattle.net_tables.specs.Reading.{tables_in}
use Rattle.rank_cert.specs.Reading.{cert_in}
use Rattle.bundle_text.specs.declared.answer.Status.TheVariants.{Done}
use Rattle.bundle_text.specs.Answers.{Said, NamesMemory, accepted_said, fault, parts_fault}
use Rattle.bundle_text.specs.Lines.{Text}
use Rattle.bundle_text.specs.Parts.{parts_of}
use Rattle.trace_view.specs.declared.fault.TraceFault.{TraceFault}
use Rattle.trace_view.specs.Faults.{names_memory, trace_fault_line}
use Rattle.trace_view.specs.Table.{table_in}

-- a table, or the fault of a trace
abbrev pub table_said : Result Text TraceFault → Said
table_said (Ok text) = record { text = text; status = Done }
table_said (Err e) = fault (trace_fault_line e)

-- what is said of the trace of accepted tables
abbrev pub traced_said : Option (List ℕ) → List ℕ → Network → Said
traced_said script trace t = table_said (table_in t script trace)

-- tables, ranks and a trace, or the script of the trace before it
abbrev pub trace_parts : List (List ℕ) → Said
trace_parts (tables ∷ ranks ∷ trace ∷ []) = accepted_said (traced_said None trace) (tables_in tables) (cert_in ranks)
trace_parts (tables ∷ ranks ∷ script ∷ trace ∷ []) = accepted_said (traced_said (Some script) trace) (tables_in tables) (cert_in ranks)
trace_parts _ = parts_fault

-- the answer to an input
abbrev pub trace_said : List ℕ → Said
trace_said input = trace_parts (parts_of input)

-- a line that names memory, that of a trace too
abbrev pub NamesTraceMemory : Said → Type 0
NamesTraceMemory said = NamesMemory said ⊎ ((e : TraceFault) × (names_memory e ≡ true) × (said ≡ fault (trace_fault_line e)))

-- this answer, unless memory was refused
abbrev pub AnswersTrace : Said → Said → Type 0
AnswersTrace said wanted = (said ≡ wanted) ⊎ NamesTraceMemory said

-- an answer to accepted tables
abbrev pub IsTable : Option (List ℕ) → List ℕ → Network → Said → Type 0
IsTable script trace t said = AnswersTrace said (traced_said script trace t)

-- an answer to an input
abbrev pub IsTraceAnswer : List ℕ → Said → Type 0
IsTraceAnswer input said = AnswersTrace said (trace_said input)
