use Rattle.std.proofs.Common.{◌≡◌, take, filter_map}
use Rattle.pending_book.specs.Kept.{key_at}
use Rattle.pending_book.proofs.book.keys_at.Given as goal

abbrev pub invariant-loop-place : goal.invariant-loop-place
invariant-loop-place l = l.keys.items ≡ filter_map (key_at l.opened) (take l.place-index l.places)
