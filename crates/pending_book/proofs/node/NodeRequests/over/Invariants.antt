use Rattle.std.proofs.Common.{◌≡◌, ◌+◌, false, slice_get}
use Rattle.std.specs.Prelude.{filter}
use Rattle.std.specs.List.{range_with_len}
use Rattle.std.specs.Option.{option_map_or}
use Rattle.pending_book.specs.Waits.{is_over}
use Rattle.pending_book.proofs.node.NodeRequests.over.Given as goal

abbrev pub invariant-loop-place : goal.invariant-loop-place
invariant-loop-place l = l.places.items ≡ filter (λ k. option_map_or (is_over l.waits (l.count + 1)) (slice_get l.self.rows k) false) (range_with_len 0 l.place)
