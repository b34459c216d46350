-- What a script gives, as a function of its lines.
use Rattle.std.specs.Prelude.{ℕ, suc, List, [], ◌∷◌, Option, Some, None, Result, Ok, Err}
use Rattle.std.specs.Option.{option_map}
use Rattle.net_rows.specs.Network.{Network, other_end}
use Rattle.network_law.specs.Cards.{Bytes}
use Rattle.network_law.specs.Entries.{Input}
use Rattle.network_law.specs.Entries as inputs
use Rattle.network_law.specs.Runs.{step_refusal, step_outputs}
use Rattle.network_law.specs.declared.fault.StepFault.{StepFault}
use Rattle.replay_script.specs.Lines.{Event, Said, Enter, Take, LinkUp, LinkDown, Tick, HostAnswer, NewDate, Lend, read_line}
use Rattle.net_replay.specs.declared.fault.ReplayFault.{ReplayFault}
use Rattle.net_replay.specs.declared.fault.ReplayFault.TheVariants.{Line, NoSuchPacket, Step as StepOf}
use Rattle.net_replay.specs.Steps.{Step, entries_at, packets}
use Rattle.net_replay.specs.Packets.{by_serial}

-- what the other end of the link put there with this serial
abbrev pub packet_at : Network → List Step → ℕ → ℕ → ℕ → Option Bytes
packet_at t steps n l s = by_serial s (packets l (entries_at (other_end t n l) steps))

-- what comes to the node by an event; nothing by a take of what was not put
abbrev pub input_of : Network → List Step → ℕ → Event → Option Input
input_of t steps n (Take l s) = option_map (inputs.Take l s) (packet_at t steps n l s)
input_of t steps n (Enter bytes) = Some (inputs.Enter bytes)
input_of t steps n (LinkUp l) = Some (inputs.LinkUp l)
input_of t steps n (LinkDown l) = Some (inputs.LinkDown l)
input_of t steps n Tick = Some inputs.Tick
input_of t steps n (HostAnswer a code) = Some (inputs.HostAnswer a code)
input_of t steps n (NewDate date) = Some (inputs.NewDate date)
input_of t steps n (Lend m card date amount) = Some (inputs.Lend m card date amount)

-- the step of a node that doesn't refuse the input
abbrev pub step_of : Network → List Step → ℕ → Input → Step
step_of t steps n i = record { node = n; entry = record { input = i; outputs = step_outputs t n (entries_at n steps) i } }

abbrev pub unless_refused : ℕ → Option StepFault → Step → Result Step ReplayFault
unless_refused number None s = Ok s
unless_refused number (Some f) s = Err (StepOf number f)

abbrev pub made_of : Network → List Step → ℕ → ℕ → Option Input → Result Step ReplayFault
made_of t steps number n None = Err (NoSuchPacket number)
made_of t steps number n (Some i) = unless_refused number (step_refusal t n (entries_at n steps) i) (step_of t steps n i)

-- the step of the line of this number after these steps, or its fault
abbrev pub line_outcome : Network → List Step → ℕ → Option Said → Result Step ReplayFault
line_outcome t steps number None = Err (Line number)
line_outcome t steps number (Some x) = made_of t steps number x.node (input_of t steps x.node x.event)

abbrev pub and_then : Result Step ReplayFault → (Step → Result (List Step) ReplayFault) → Result (List Step) ReplayFault
and_then (Ok s) f = f s
and_then (Err fault) f = Err fault

-- the steps to which lines lead, the newest first, or the fault of the first line that has one
abbrev pub outcome_from : Network → List Step → ℕ → List Bytes → Result (List Step) ReplayFault
outcome_from t steps number [] = Ok steps
outcome_from t steps number (line ∷ lines) = and_then (line_outcome t steps number (read_line t line)) (λ s. outcome_from t (s ∷ steps) (suc number) lines)

abbrev pub outcome : Network → List Bytes → Result (List Step) ReplayFault
outcome t lines = outcome_from t [] 1 lines
