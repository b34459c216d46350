-- What the program answers to tables, ranks and a script.
use Rattle.std.specs.Prelude.{◌≡◌, ◌⊎◌, ℕ, List, [], ◌∷◌, codes, Option, Some, None, Result, Ok, Err, IfOk}
use Rattle.card_digits.specs.Lines.{lines}
use Rattle.card_digits.specs.declared.stream.Sink.{Ghosts}
use Rattle.net_rows.specs.Network.{Network}
use Rattle.net_tables.specs.Reading.{tables_in}
use Rattle.rank_cert.specs.Reading.{cert_in}
use Rattle.net_replay.specs.declared.fault.ReplayFault.{ReplayFault}
use Rattle.net_replay.specs.Steps.{Step}
use Rattle.net_replay.specs.Outcome.{outcome}
use Rattle.message_text.specs.Printed.{CountsPrinted}
use Rattle.message_text.specs.declared.fault.PrintFault.{PrintFault}
use Rattle.message_text.specs.declared.fault.PrintFault.TheVariants.{Write, Memory}
use Rattle.bundle_text.specs.declared.answer.Status.TheVariants.{Done}
use Rattle.bundle_text.specs.Answers.{Said, accepted_said, fault, parts_fault, NamesMemory, Wrote, WroteFront}
use Rattle.bundle_text.specs.declared.answer.Status.{Status}
use Rattle.bundle_text.specs.Parts.{parts_of}
use Rattle.replay_text.specs.Lines.{script_fault_line, steps_text}

-- the steps of a script, or its fault
abbrev pub outcome_said : Network → Result (List Step) ReplayFault → Said
outcome_said t (Ok steps) = record { text = steps_text t steps; status = Done }
outcome_said t (Err f) = fault (script_fault_line f)

-- what is said of a script on accepted tables
abbrev pub script_said : List ℕ → Network → Said
script_said script t = outcome_said t (outcome t (lines script))

abbrev pub replay_parts : List (List ℕ) → Said
replay_parts (tables ∷ ranks ∷ script ∷ []) = accepted_said (script_said script) (tables_in tables) (cert_in ranks)
replay_parts _ = parts_fault

-- the answer of `replay` to an input
abbrev pub replay_said : List ℕ → Said
replay_said input = replay_parts (parts_of input)

-- a line that names memory, that of a script too
abbrev pub NamesScriptMemory : Said → Type 0
NamesScriptMemory said = NamesMemory said ⊎ (said ≡ fault (codes "fault script 4 memory\n"))

-- the answer of `replay`, unless memory was refused
abbrev pub ReplayAnswers : Said → Said → Type 0
ReplayAnswers said wanted = (said ≡ wanted) ⊎ NamesScriptMemory said

-- for a writer as it was and as it is: this answer was written, unless memory was refused, and has this status
abbrev pub WroteReplay : {W : Type 0} → Ghosts W → W → W → Said → Status → Type 0
WroteReplay sink old new wanted status = Wrote (λ said. ReplayAnswers said wanted) (sink.written old) (sink.written new) status

-- a front of it was
abbrev pub WroteReplayFront : {W : Type 0} → Ghosts W → W → W → Said → Type 0
WroteReplayFront sink old new wanted = WroteFront (λ said. ReplayAnswers said wanted) (sink.written old) (sink.written new)

-- how writing it ends: it was written, and has this status; or the writer failed, this once, behind a front of it; or memory was refused, and
-- nothing was written
pub record WritesReplay {W : Type 0} (sink : Ghosts W) (old new : W) (wanted : Said) (result : Result Status PrintFault) : Type 0 where
  pub ok : IfOk result (WroteReplay sink old new wanted)
  pub write : result ≡ Err Write → WroteReplayFront sink old new wanted
  pub counts : CountsPrinted (sink.failures old) (sink.failures new) result
  pub memory : result ≡ Err Memory → sink.written new ≡ sink.written old

-- an answer was made, and written
abbrev pub WroteMade : {E : Type 0} → Result Said E → Option (List ℕ) → Option (List ℕ) → Status → Type 0
WroteMade made old new status = (answer : Said) × (made ≡ Ok answer) × Wrote (λ said. said ≡ answer) old new status

abbrev pub WroteMadeFront : {E : Type 0} → Result Said E → Option (List ℕ) → Option (List ℕ) → Type 0
WroteMadeFront made old new = (answer : Said) × (made ≡ Ok answer) × WroteFront (λ said. said ≡ answer) old new
