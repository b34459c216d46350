-- A script that is being run.
use Rattle.std.specs.Prelude.{ℕ, ◌≡◌, ◌<◌, List, length, map, reverse, Some, slice_get}
use Rattle.net_rows.specs.Network.{Network}
use Rattle.network_law.specs.Cards.{Bytes}
use Rattle.network_law.specs.Checked.{IsChecked}
use Rattle.network_law.specs.Entries.{Entry}
use Rattle.switch_node.specs.Node.{NodeView}
use Rattle.net_replay.specs.Steps.{Step, entries_at, packets}
use Rattle.net_replay.specs.Packets.{bytes_at}
use Rattle.net_replay.specs.declared.packets.PacketPlace.{PacketPlace}
use Rattle.net_replay.specs.Traces.{AreNodes, AreThere, nodes_of}
use Rattle.network_law.specs.Runs.{IsLegal}
use Rattle.replay_script.specs.Lines.{Said, read_line}
use Rattle.net_replay.specs.declared.running.Running.{Running}

-- these are the places of what the trace put on a link
abbrev pub ArePlaces : List Entry → ℕ → List PacketPlace → Type 0
ArePlaces trace l places = map (bytes_at (reverse trace)) places ≡ map Some (packets l trace)

-- and so on each of so many links
abbrev pub ArePackets : ℕ → List Entry → List (List PacketPlace) → Type 0
ArePackets count trace links = (length links ≡ count) × ((l : ℕ) → l < count → (places : List PacketPlace) × (slice_get links l ≡ Some places) × ArePlaces trace l places)

-- and so for each node
abbrev pub AreSent : Network → List Step → List (List (List PacketPlace)) → Type 0
AreSent t steps sent = (length sent ≡ length t.nodes) × ((n : ℕ) → n < length t.nodes → (links : List (List PacketPlace)) × (slice_get sent n ≡ Some links) × ArePackets (length t.links) (entries_at n steps) links)

pub record IsAt (t : Network) (nodes : List NodeView) (sent : List (List (List PacketPlace))) (line_nodes : List ℕ) (steps : List Step) : Type 0 where
  pub nodes_are : AreNodes t steps nodes
  pub sent_are : AreSent t steps sent
  pub line_nodes_are : line_nodes ≡ nodes_of steps
  pub there : AreThere t steps
  pub legal : (n : ℕ) → n < length t.nodes → IsLegal t n (entries_at n steps)

-- the nodes stand where these steps lead
abbrev pub IsStanding : Running → List Step → Type 0
IsStanding r steps = IsChecked r.tables.now × IsAt r.tables.now r.nodes.items r.sent.items r.line_nodes.items steps

-- P of the tables and of any steps that lead to where the nodes stand
abbrev pub EachStanding : Running → (Network → List Step → Type 0) → Type 0
EachStanding r P = (steps : List Step) → IsStanding r steps → P r.tables.now steps

-- some line says it
abbrev pub IsSaid : Network → Said → Type 0
IsSaid t x = (line : Bytes) × (read_line t line ≡ Some x)
