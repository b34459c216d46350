-- Legal traces of a node, and runs of a network.
use Rattle.std.specs.Prelude.{ℕ, ◌<◌, ◌≤◌, ◌≡◌, List, [], ◌∷◌, length, map, true, nat_le, if◌then◌else◌, Option, Some, None, Result, Ok, Err, ⊤}
use Rattle.card_digits.specs.Digits.{IsDateLabel, IsCard}
use Rattle.message_elements.specs.declared.fault.DecodeFault.{DecodeFault}
use Rattle.net_rows.specs.Network.{Network, other_end}
use Rattle.network_law.specs.declared.fault.StepFault.{StepFault}
use Rattle.network_law.specs.declared.fault.StepFault.TheVariants.{Decode, HistoryFull}
use Rattle.network_law.specs.Cards.{Bytes}
use Rattle.network_law.specs.Tables.{is_link_of}
use Rattle.network_law.specs.Traces.{ReadInput, History, IsIn}
use Rattle.network_law.specs.Decision.{decide}
use Rattle.network_law.specs.Refusals.{refusal}
use Rattle.network_law.specs.Entries.{Input, Take, LinkUp, LinkDown, HostAnswer, NewDate, Lend, Output, Put, Entry, read_input, history, spelled, newest_outputs, IsCode}

-- the input names no link but the node's own
abbrev pub NamesOwnLink : Network → ℕ → Input → Type 0
NamesOwnLink t n (Take l s bytes) = is_link_of t n l ≡ true
NamesOwnLink t n (LinkUp l) = is_link_of t n l ≡ true
NamesOwnLink t n (LinkDown l) = is_link_of t n l ≡ true
NamesOwnLink t n _ = ⊤

-- a code is two characters, a date four digits, a card 8 to 19, and an amount has at most twelve digits
abbrev pub IsTyped : Input → Type 0
IsTyped (HostAnswer ask code) = IsCode code
IsTyped (NewDate date) = IsDateLabel date
IsTyped (Lend m card date amount) = IsCard card × IsDateLabel date × (amount < 1000000000000)
IsTyped _ = ⊤

-- the first fault of an input after these entries
abbrev pub fault_of : Network → ℕ → History → Result ReadInput DecodeFault → Option StepFault
fault_of t n past (Ok i) = refusal t n past i
fault_of t n past (Err fault) = Some (Decode fault)

unfoldable pub step_refusal : Network → ℕ → List Entry → Input → Option StepFault
unfolding refusal history read_input
step_refusal t n es i = if nat_le 1000000 (length es) then Some HistoryFull else fault_of t n (history es) (read_input i)

-- the outputs that are decided for an input after these entries
abbrev pub outputs_of : Network → ℕ → History → Result ReadInput DecodeFault → List Output
outputs_of t n past (Ok i) = map spelled (newest_outputs (decide t n past i))
outputs_of t n past (Err fault) = []

unfoldable pub step_outputs : Network → ℕ → List Entry → Input → List Output
unfolding decide history read_input spelled
step_outputs t n es i = outputs_of t n (history es) (read_input i)

pub record IsStep (t : Network) (n : ℕ) (es : List Entry) (e : Entry) : Type 0 where
  pub own : NamesOwnLink t n e.input
  pub typed : IsTyped e.input
  pub accepted : step_refusal t n es e.input ≡ None
  pub outputs : e.outputs ≡ step_outputs t n es e.input

-- a legal trace of a node: each entry is a step after those before it. The newest entry stands first
abbrev pub IsLegal : Network → ℕ → List Entry → Type 0
IsLegal t n [] = ⊤
IsLegal t n (e ∷ es) = IsLegal t n es × IsStep t n es e

-- the trace put these bytes on the link with this serial
abbrev pub WasPut : List Entry → ℕ → ℕ → Bytes → Type 0
WasPut trace l s bytes = (f : Entry) × IsIn f trace × IsIn (Put l s bytes) f.outputs

-- one legal trace for each node of the tables, in which each take has its put at the link's other end. Nothing is asked of the
-- order between nodes, so a run may lose, repeat and delay what is put
pub record IsRun (t : Network) (traces : ℕ → List Entry) : Type 0 where
  pub legal : (n : ℕ) → n < length t.nodes → IsLegal t n (traces n)
  pub no_others : (n : ℕ) → length t.nodes ≤ n → traces n ≡ []
  pub linked : (n l s : ℕ) (bytes : Bytes) (e : Entry) → IsIn e (traces n) → e.input ≡ Take l s bytes → WasPut (traces (other_end t n l)) l s bytes
