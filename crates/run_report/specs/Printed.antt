-- What the program answers to tables, ranks and a plan.
use Rattle.std.specs.Prelude.{◌≡◌, ◌⊎◌, ℕ, List, [], ◌∷◌, ◌++◌, Result, Ok, Err, String, string_bytes}
use Rattle.std.specs.declared.alloc.Global.{Global}
use Rattle.card_digits.specs.Lines.{lines}
use Rattle.net_rows.specs.Network.{Network}
use Rattle.net_tables.specs.Reading.{tables_in}
use Rattle.rank_cert.specs.Reading.{cert_in}
use Rattle.bundle_text.specs.declared.answer.Status.TheVariants.{Done}
use Rattle.bundle_text.specs.Answers.{Said, IsOfAccepted, fault, parts_fault, NamesMemory}
use Rattle.bundle_text.specs.Lines.{line_feed}
use Rattle.bundle_text.specs.Parts.{parts_of}
use Rattle.run_report.specs.declared.text_run.RunFault.{RunFault}
use Rattle.run_report.specs.FaultLines.{run_fault_line}
use Rattle.run_report.specs.Runs.{RunsText}

-- what is printed of a report, or of the fault for which there is none
abbrev pub said_of : Result (String Global) RunFault → Said
said_of (Ok report) = record { text = string_bytes report ++ line_feed; status = Done }
said_of (Err f) = fault (run_fault_line f)

-- what is printed of a run of the plan on accepted tables
abbrev pub IsOfPlan : List ℕ → Network → Said → Type 0
IsOfPlan plan t said = (r : Result (String Global) RunFault) × RunsText t (lines plan) r × (said ≡ said_of r)

abbrev pub IsOfParts : List (List ℕ) → Said → Type 0
IsOfParts (tables ∷ ranks ∷ plan ∷ []) said = IsOfAccepted (IsOfPlan plan) (tables_in tables) (cert_in ranks) said
IsOfParts _ said = said ≡ parts_fault

-- an answer of `run` to an input, unless memory was refused
abbrev pub RunAnswers : List ℕ → Said → Type 0
RunAnswers input said = IsOfParts (parts_of input) said ⊎ NamesMemory said
