-- What the calls of a node leave. A handle holds a node, or none.
use Rattle.std.specs.Prelude.{◌≡◌, ◌≢◌, ◌<◌, ◌≤◌, ◌⊎◌, ◌==◌, ℕ, List, length, Option, Some, None, Result, Ok, Err}
use Rattle.std.specs.List.{position, slice_get}
use Rattle.std.specs.Cmp.Lexicographic.{pointwise}
use Rattle.message_elements.specs.declared.fault.DecodeFault.{DecodeFault}
use Rattle.buffer_front.specs.Fronts.{with_front}
use Rattle.net_rows.specs.Network.{Network}
use Rattle.net_rows.specs.declared.row.Link.{Link}
use Rattle.network_law.specs.Entries.{Output}
use Rattle.network_law.specs.Faults.{refusal_number}
use Rattle.network_law.specs.declared.fault.StepFault.{StepFault}
use Rattle.network_law.specs.declared.fault.StepFault.TheVariants as faults
use Rattle.step_draft.specs.Outputs.{bytes_of}
use Rattle.switch_node.specs.Node.{NodeView, newest_outputs}
use Rattle.node_calls.specs.declared.input.NodeInput.{NodeInput}
use Rattle.node_calls.specs.declared.making.MakeFault.{MakeFault}
use Rattle.node_calls.specs.declared.making.MakeFault.TheVariants as made
use Rattle.node_calls.specs.declared.output.NodeOutput.{NodeOutput}
use Rattle.node_calls.specs.Inputs.{input_in}
use Rattle.node_calls.specs.Making.{node_in}
use Rattle.node_calls.specs.Outputs.{told}
use Rattle.node_calls.specs.Steps.{Steps, IsRefused}
use Rattle.card_switch_c.specs.Messages.{fault_number, fault_element}
use Rattle.card_switch_c.specs.declared.node.Stepped.{Stepped}

-- the status of why there is no node
abbrev pub make_status : MakeFault → ℕ
make_status (made.Tables fault) = 2
make_status (made.Ranks fault) = 2
make_status made.UnknownNode = 5
make_status (made.Refused refusal) = 1
make_status made.Memory = 4

-- what making a node leaves in its handle, by the status: the node, or what the handle held before
pub record Makes (tables ranks name : List ℕ) (before after : Option NodeView) (status : ℕ) : Type 0 where
  pub made : status ≡ 0 → (a : NodeView) × (node_in tables ranks name ≡ Ok a) × (after ≡ Some a)
  pub fault : status ≢ 0 → status ≢ 4 → (f : MakeFault) × (node_in tables ranks name ≡ Err f) × (status ≡ make_status f)
  pub kept : status ≢ 0 → after ≡ before

-- the number of the message's fault, 0 where that isn't the reason
abbrev pub refused_message : StepFault → ℕ
refused_message (faults.Decode fault) = fault_number fault
refused_message _ = 0

-- the element that a refusal names, 0 where it names none
abbrev pub refused_element : StepFault → ℕ
refused_element (faults.Decode fault) = fault_element fault
refused_element (faults.Missing element) = element
refused_element _ = 0

abbrev pub refusal_told : StepFault → Stepped
refusal_told fault = record { outputs = 0; refusal = refusal_number fault; message_fault = refused_message fault; element = refused_element fault }

-- what is told of a step that wasn't made, and of an input that no law refused
abbrev pub nothing_told : Stepped
nothing_told = record { outputs = 0; refusal = 0; message_fault = 0; element = 0 }

-- what telling a node an input leaves, by the status
pub record TellsInput (input : NodeInput) (bytes : List ℕ) (a : NodeView) (after : Option NodeView) (stepped : Stepped) (status : ℕ) : Type 0 where
  pub done : status ≡ 0 → (b : NodeView) × (after ≡ Some b) × Steps (input_in a.t a.n input bytes) a b stepped.outputs
  pub refused : status ≡ 1 → (fault : StepFault) × IsRefused (input_in a.t a.n input bytes) a fault × (stepped ≡ refusal_told fault)
  pub unknown : status ≡ 5 → input_in a.t a.n input bytes ≡ None
  pub nothing : status ≢ 0 → status ≢ 1 → stepped ≡ nothing_told
  pub kept : status ≢ 0 → after ≡ Some a
  pub known : (status ≤ 1) ⊎ ((status ≡ 4) ⊎ (status ≡ 5))

-- the same for a handle
abbrev pub TellsHandle : NodeInput → List ℕ → Option NodeView → Option NodeView → Stepped → ℕ → Type 0
TellsHandle input bytes None after stepped status = (status ≡ 6) × (after ≡ None) × (stepped ≡ nothing_told)
TellsHandle input bytes (Some a) after stepped status = TellsInput input bytes a after stepped status

-- what asking a node for an output leaves, by the status: in the buffer, and in what is told of the output
pub record GivesOutput (a : NodeView) (place : ℕ) (old new : List ℕ) (before output : NodeOutput) (status : ℕ) : Type 0 where
  pub done : status ≡ 0 → (o : Output) × (slice_get (newest_outputs a.trace) place ≡ Some o) × (output ≡ told o) × (new ≡ with_front (bytes_of o) old)
  pub small : status ≡ 3 → (o : Output) × (slice_get (newest_outputs a.trace) place ≡ Some o) × (output ≡ told o) × (length old < output.length)
  pub unknown : status ≡ 5 → (length (newest_outputs a.trace) ≤ place) × (output ≡ before)
  pub kept : status ≢ 0 → new ≡ old
  pub known : (status ≡ 0) ⊎ ((status ≡ 3) ⊎ (status ≡ 5))

abbrev pub GivesOutputOf : Option NodeView → ℕ → List ℕ → List ℕ → NodeOutput → NodeOutput → ℕ → Type 0
GivesOutputOf None place old new before output status = (status ≡ 6) × (new ≡ old) × (output ≡ before)
GivesOutputOf (Some a) place old new before output status = GivesOutput a place old new before output status

-- the link of that name
abbrev pub link_of : Network → List ℕ → Option ℕ
link_of t name = position (λ k. pointwise ◌==◌ k.name name) t.links

-- what looking for a link by its name leaves, by the status
pub record FindsLink (a : NodeView) (name : List ℕ) (old new : ℕ) (status : ℕ) : Type 0 where
  pub done : status ≡ 0 → link_of a.t name ≡ Some new
  pub unknown : status ≡ 5 → link_of a.t name ≡ None
  pub kept : status ≢ 0 → new ≡ old
  pub known : (status ≡ 0) ⊎ (status ≡ 5)

abbrev pub FindsLinkOf : Option NodeView → List ℕ → ℕ → ℕ → ℕ → Type 0
FindsLinkOf None name old new status = (status ≡ 6) × (new ≡ old)
FindsLinkOf (Some a) name old new status = FindsLink a name old new status

-- what asking for a link's name leaves, by the status: in the buffer, and in the count of its bytes
pub record NamesLink (a : NodeView) (link : ℕ) (old new : List ℕ) (before count : ℕ) (status : ℕ) : Type 0 where
  pub done : status ≡ 0 → (row : Link) × (slice_get a.t.links link ≡ Some row) × (new ≡ with_front row.name old) × (count ≡ length row.name)
  pub small : status ≡ 3 → (row : Link) × (slice_get a.t.links link ≡ Some row) × (length old < length row.name) × (count ≡ length row.name)
  pub unknown : status ≡ 5 → (length a.t.links ≤ link) × (count ≡ before)
  pub kept : status ≢ 0 → new ≡ old
  pub known : (status ≡ 0) ⊎ ((status ≡ 3) ⊎ (status ≡ 5))

abbrev pub NamesLinkOf : Option NodeView → ℕ → List ℕ → List ℕ → ℕ → ℕ → ℕ → Type 0
NamesLinkOf None link old new before count status = (status ≡ 6) × (new ≡ old) × (count ≡ before)
NamesLinkOf (Some a) link old new before count status = NamesLink a link old new before count status
