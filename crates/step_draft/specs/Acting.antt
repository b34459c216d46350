-- What a part of a step does.
use Rattle.std.specs.Prelude.{◌≡◌, ℕ}
use Rattle.iso_message.specs.Fields.{Fields}
use Rattle.net_rows.specs.Network.{Network}
use Rattle.network_law.specs.Traces.{Source}
use Rattle.node_machine.specs.Books.{Books, Request}
use Rattle.node_machine.specs.Lists.{view}
use Rattle.node_machine.specs.Steps.{Progress}
use Rattle.node_books.specs.Effects.{Drafted, progress}

-- it goes on from what was done so far by an act, which may look at the node's books as they were before the step
abbrev pub Does : Network → ℕ → Drafted → Drafted → (Books → Progress → Progress) → Type 0
Does t n old new act = progress new ≡ act (view t n old.base) (progress old)

-- a request, whence it came and the count of ticks at which it was opened
abbrev pub opened_at : Fields → Source → ℕ → Request
opened_at message source count = record { message = message; source = source; count = count }
