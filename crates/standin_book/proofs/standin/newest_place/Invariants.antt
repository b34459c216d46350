use Rattle.std.proofs.Common.{ℕ, ◌≡◌, ◌≤◌, false, length}
use Rattle.book_index.specs.Found.{holds_at}
use Rattle.standin_book.specs.Approvals.{is_of}
use Rattle.standin_book.proofs.standin.newest_place.Given as goal

abbrev pub invariant-loop-place : goal.invariant-loop-place
invariant-loop-place l = record {
  within : l.place ≤ length l.takes;
  none : (i : ℕ) → l.place ≤ i → holds_at (is_of l.key) l.takes i ≡ false;
}

abbrev pub decreases-loop-place : goal.decreases-loop-place
decreases-loop-place l = l.place
