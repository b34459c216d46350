-- What a station is seen as, and what its calls do.
use Rattle.std.specs.Prelude.{◌≡◌, ◌⊎◌, ℕ, List, [], ◌∷◌, Some, None, Result, MatchResult}
use Rattle.net_rows.specs.Network.{Network}
use Rattle.network_law.specs.declared.fault.StepFault.TheVariants.{Memory}
use Rattle.network_law.specs.Entries.{Entry, Input, Output, Put, Answer, Ask, Post}
use Rattle.network_law.specs.Runs.{NamesOwnLink, step_refusal, step_outputs}
use Rattle.switch_node.specs.Node.{NodeView}
use Rattle.link_rings.specs.Rings.{OutView, InView, PutView, put, packet, Sends}
use Rattle.net_threads.specs.declared.fault.StationFault.{StationFault}
use Rattle.net_threads.specs.declared.fault.StationFault.TheVariants.{StrangeLink, Step}

pub record StationView : Type 0 where
  pub t : Network
  pub n : ℕ
  pub trace : List Entry  -- the newest first
  pub outs : List OutView
  pub ins : List InView

-- of the nodes under locks only their tables stay as they are
pub record NetworkView : Type 0 where
  pub t : Network

-- the node at this place of the tables
pub record IsStation (t : Network) (n : ℕ) (node : NodeView) : Type 0 where
  pub tables : node.t ≡ t
  pub place : node.n ≡ n

-- what outputs put on links
abbrev pub puts_of : List Output → List PutView
puts_of [] = []
puts_of (Put l s bytes ∷ os) = put l (packet s bytes) ∷ puts_of os
puts_of (Answer bytes ∷ os) = puts_of os
puts_of (Ask a bytes ∷ os) = puts_of os
puts_of (Post bytes ∷ os) = puts_of os

-- the outputs that are decided for an input
abbrev pub decided : StationView → Input → List Output
decided s i = step_outputs s.t s.n s.trace i

-- the entry of the step was added, and some of its puts went on the rings, in order
pub record Applies (old : StationView) (i : Input) (new : StationView) : Type 0 where
  pub own : NamesOwnLink old.t old.n i
  pub accepted : step_refusal old.t old.n old.trace i ≡ None
  pub tables : new.t ≡ old.t
  pub place : new.n ≡ old.n
  pub trace : new.trace ≡ record { input = i; outputs = decided old i } ∷ old.trace
  pub outs : Sends (puts_of (decided old i)) old.outs new.outs
  pub ins : new.ins ≡ old.ins

-- why an input is refused: it names a link that isn't the node's; or else no memory, or the fault of the step
abbrev pub IsWhy : StationView → Input → StationFault → Type 0
IsWhy s i StrangeLink = ¬ NamesOwnLink s.t s.n i
IsWhy s i (Step f) = (f ≡ Memory) ⊎ (NamesOwnLink s.t s.n i × (step_refusal s.t s.n s.trace i ≡ Some f))

abbrev pub Does : StationView → Input → Result (Unit {0}) StationFault → StationView → Type 0
Does old i r new = MatchResult r (λ _. Applies old i new) (λ f. (new ≡ old) × IsWhy old i f)
