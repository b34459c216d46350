-- How far a trace of so many entries lets the lists grow.
use Rattle.std.specs.Prelude.{ℕ, suc, ◌<◌, ◌≤◌, ◌*◌, ◌^◌, List, length}
use Rattle.net_rows.specs.Network.{Network}
use Rattle.network_law.specs.Traces.{ReadInput}
use Rattle.node_machine.specs.Lists.{Lists, LinkState, link_at, empty}
use Rattle.node_machine.specs.Steps as steps

-- on no link was put more often
abbrev pub PutsAreWithin : ℕ → List LinkState → Type 0
PutsAreWithin puts links = (l : ℕ) → (link_at links l).serial ≤ puts

-- there are no more requests and stored items than these, no link on which was put more often, and there were no more ticks
pub record AreWithin (rows store puts ticks : ℕ) (x : Lists) : Type 0 where
  pub in_rows : length x.rows ≤ rows
  pub in_store : length x.store ≤ store
  pub in_links : PutsAreWithin puts x.links
  pub in_count : x.count ≤ ticks

-- what so many entries leave at most. An entry brings one request and one tick at most. It stores at most two items for each request,
-- and two more. It puts at most one output for each stored item, three for each request, and three more
abbrev pub AreWithinEntries : ℕ → Lists → Type 0
AreWithinEntries e x = AreWithin e (2000000 * e) (2 ^ 41 * e) e x

-- a node that was just made
abbrev pub BeginsWithin : Network → Type 0
BeginsWithin t = (links : ℕ) → AreWithinEntries 0 (empty t links)

-- whatever the input is
abbrev pub StaysWithin : Network → Type 0
StaysWithin t = (n e : ℕ) (i : ReadInput) (x : Lists) → e < 1000000 → AreWithinEntries e x → AreWithinEntries (suc e) (steps.step t n x i).lists
