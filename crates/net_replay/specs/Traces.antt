-- Traces as contracts see them.
use Rattle.std.specs.Prelude.{ℕ, ◌≡◌, ◌<◌, List, [], ◌∷◌, length, map, reverse, Option, Some, None, slice_get, ⊤}
use Rattle.network_law.specs.Entries.{Entry}
use Rattle.net_rows.specs.Network.{Network}
use Rattle.switch_node.specs.Node.{NodeView}
use Rattle.net_replay.specs.Steps.{Step, entries_at}

pub record TracesView : Type 0 where
  pub nodes : List NodeView
  pub line_nodes : List ℕ

abbrev pub trace_or_none : Option NodeView → List Entry
trace_or_none None = []
trace_or_none (Some a) = a.trace

-- the trace of each node
abbrev pub trace_of : TracesView → ℕ → List Entry
trace_of v n = trace_or_none (slice_get v.nodes n)

-- there is a node of the tables for each number, and its trace is that of the steps
abbrev pub AreNodes : Network → List Step → List NodeView → Type 0
AreNodes t steps nodes = (length nodes ≡ length t.nodes) × ((n : ℕ) → n < length t.nodes → slice_get nodes n ≡ Some (record { t = t; n = n; trace = entries_at n steps }))

-- the node of each line, where the newest step stands first
abbrev pub nodes_of : List Step → List ℕ
nodes_of steps = map (λ s. s.node) (reverse steps)

-- each step is that of a node of the tables
abbrev pub AreThere : Network → List Step → Type 0
AreThere t [] = ⊤
AreThere t (s ∷ steps) = (s.node < length t.nodes) × AreThere t steps

pub record AreTraces (t : Network) (steps : List Step) (v : TracesView) : Type 0 where
  pub nodes : AreNodes t steps v.nodes
  pub line_nodes : v.line_nodes ≡ nodes_of steps
  pub there : AreThere t steps
