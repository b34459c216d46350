use Rattle.std.proofs.Common.{◌≡◌}
use Rattle.crowded_map.specs.Values.{spare}
use Rattle.card_digits.specs.declared.key.Key.{Key}
use Rattle.book_index.specs.Found.{found, holds_at, Tells}
use Rattle.message_keys.specs.Keys.{key_eq}
use Rattle.standin_book.specs.Approvals.{is_of, skips}
use Rattle.standin_book.proofs.standin.close_gap.Given as goal

abbrev pub invariant-loop-i : goal.invariant-loop-i
invariant-loop-i l = record {
  places : (k : Key) → Tells (found (key_eq k) l.places.places.entries) (skips l.i (holds_at (is_of k) l.takes));
  room : spare l.places.places ≡ spare l.fn.places.places;
}
