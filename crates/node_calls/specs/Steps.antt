-- What a call leaves that tells a node an input.
use Rattle.std.specs.Prelude.{◌≡◌, ℕ, ◌∷◌, length, Option, Some, None}
use Rattle.network_law.specs.declared.fault.StepFault.{StepFault}
use Rattle.network_law.specs.Entries.{Input}
use Rattle.network_law.specs.Runs.{step_refusal, step_outputs}
use Rattle.switch_node.specs.Node.{NodeView}

-- the node has one more entry: this input, with what the law puts out for it
abbrev pub after_step : NodeView → Input → NodeView
after_step a input = record { t = a.t; n = a.n; trace = record { input = input; outputs = step_outputs a.t a.n a.trace input } ∷ a.trace }

-- an input was told, and the law doesn't refuse it
pub record Steps (told : Option Input) (before after : NodeView) (count : ℕ) : Type 0 where
  pub input : Input
  pub is_told : told ≡ Some input
  pub accepted : step_refusal before.t before.n before.trace input ≡ None
  pub entered : after ≡ after_step before input
  pub counted : count ≡ length (step_outputs before.t before.n before.trace input)

-- an input was told, and the law refuses it for this reason
abbrev pub IsRefused : Option Input → NodeView → StepFault → Type 0
IsRefused told a fault = (input : Input) × (told ≡ Some input) × (step_refusal a.t a.n a.trace input ≡ Some fault)
