-- What comes of a script.
use Rattle.std.specs.Prelude.{◌≡◌, ◌⊎◌, ℕ, suc, List, [], ◌∷◌, Some, None}
use Rattle.net_rows.specs.Network.{Network, other_end}
use Rattle.network_law.specs.Cards.{Bytes}
use Rattle.network_law.specs.Entries.{Input}
use Rattle.network_law.specs.Entries as inputs
use Rattle.network_law.specs.Runs.{IsStep, step_refusal, WasPut}
use Rattle.replay_script.specs.Lines.{Event, Said, Enter, Take, LinkUp, LinkDown, Tick, HostAnswer, NewDate, Lend, read_line}
use Rattle.net_replay.specs.declared.fault.ReplayFault.{ReplayFault}
use Rattle.net_replay.specs.declared.fault.ReplayFault.TheVariants.{Line, NoSuchPacket, Step as StepOf, Memory}
use Rattle.network_law.specs.declared.fault.StepFault.{StepFault}
use Rattle.network_law.specs.declared.fault.StepFault.TheVariants.{Memory as NoMemory}
use Rattle.net_replay.specs.Steps.{Step, entries_at}

-- the other end of the link put these bytes there with this serial
abbrev pub WasSent : Network → List Step → ℕ → ℕ → ℕ → Bytes → Type 0
WasSent t steps n l s bytes = WasPut (entries_at (other_end t n l) steps) l s bytes

-- what comes to the node by an event, after these steps: a take brings what was put
abbrev pub IsInput : Network → List Step → ℕ → Event → Input → Type 0
IsInput t steps n (Take l s) i = (bytes : Bytes) × (i ≡ inputs.Take l s bytes) × WasSent t steps n l s bytes
IsInput t steps n (Enter bytes) i = i ≡ inputs.Enter bytes
IsInput t steps n (LinkUp l) i = i ≡ inputs.LinkUp l
IsInput t steps n (LinkDown l) i = i ≡ inputs.LinkDown l
IsInput t steps n Tick i = i ≡ inputs.Tick
IsInput t steps n (HostAnswer a code) i = i ≡ inputs.HostAnswer a code
IsInput t steps n (NewDate date) i = i ≡ inputs.NewDate date
IsInput t steps n (Lend m card date amount) i = i ≡ inputs.Lend m card date amount

-- the event takes what was never put
abbrev pub LacksPacket : Network → List Step → ℕ → Event → Type 0
LacksPacket t steps n (Take l s) = (bytes : Bytes) → WasSent t steps n l s bytes → ⊥
LacksPacket t steps n _ = ⊥

-- the step is what is said, made after these steps
pub record IsSaidStep (t : Network) (steps : List Step) (x : Said) (s : Step) : Type 0 where
  pub node : s.node ≡ x.node
  pub input : IsInput t steps x.node x.event s.entry.input
  pub step : IsStep t x.node (entries_at x.node steps) s.entry

abbrev pub IsStepOf : Network → List Step → Bytes → Step → Type 0
IsStepOf t steps line s = (x : Said) × (read_line t line ≡ Some x) × IsSaidStep t steps x s

-- the lines lead from the first steps to the last
abbrev pub Leads : Network → List Step → List Bytes → List Step → Type 0
Leads t steps [] last = last ≡ steps
Leads t steps (line ∷ lines) last = (s : Step) × IsStepOf t steps line s × Leads t (s ∷ steps) lines last

-- the fault of what the line of this number says after these steps
abbrev pub IsSaidFault : Network → List Step → ℕ → Said → ReplayFault → Type 0
IsSaidFault t steps number x (NoSuchPacket n) = (n ≡ number) × LacksPacket t steps x.node x.event
IsSaidFault t steps number x (StepOf n f) = (n ≡ number) × ((i : Input) × IsInput t steps x.node x.event i × (step_refusal t x.node (entries_at x.node steps) i ≡ Some f))
IsSaidFault t steps number x _ = ⊥

-- the line says nothing, or what it says has the fault
abbrev pub IsFaultOf : Network → List Step → ℕ → Bytes → ReplayFault → Type 0
IsFaultOf t steps number line fault = ((fault ≡ Line number) × (read_line t line ≡ None)) ⊎ ((x : Said) × (read_line t line ≡ Some x) × IsSaidFault t steps number x fault)

-- the fault is that of the first line that has one; the lines before it are steps
abbrev pub Fails : Network → List Step → ℕ → List Bytes → ReplayFault → Type 0
Fails t steps number [] fault = ⊥
Fails t steps number (line ∷ lines) fault = IsFaultOf t steps number line fault ⊎ ((s : Step) × IsStepOf t steps line s × Fails t (s ∷ steps) (suc number) lines fault)

-- want of memory is no fault of a step
abbrev pub fault_of : ℕ → StepFault → ReplayFault
fault_of number fault = of fault
  where
    of : StepFault → ReplayFault
    of NoMemory = Memory
    of f = StepOf number fault
