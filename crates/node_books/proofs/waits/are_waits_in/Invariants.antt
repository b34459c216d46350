use Rattle.std.proofs.Common.{◌≡◌, ◌<◌, ℕ, Some}
use Rattle.std.specs.Prelude.{slice_get}
use Rattle.net_rows.specs.declared.row.Link.{Link}
use Rattle.node_books.proofs.waits.are_waits_in.Given as goal

abbrev pub invariant-loop-i : goal.invariant-loop-i
invariant-loop-i l = (k : ℕ) (link : Link) → k < l.i → slice_get l.links k ≡ Some link → slice_get l.ticks k ≡ Some link.ticks
