use Rattle.std.proofs.Common.{◌≡◌, ◌+◌, ◌≤◌, ◌++◌, [], ℕ, List, length, take}
use Rattle.message_elements.specs.declared.kind.Kind.{Kind}
use Rattle.iso_message.specs.Spelling.{Ascends}
use Rattle.iso_message.specs.Unread.{read_on}
use Rattle.message_text.specs.Printed.{element_lines}
use Rattle.message_text.specs.Room.{lines_room}
use Rattle.message_text.proofs.row.put_left.Given as goal

abbrev pub invariant-loop-number : goal.invariant-loop-number
invariant-loop-number l = record {
  so_far : List (ℕ × List ℕ);
  same : (kind : Kind) → read_on kind [] l.fn.unread ≡ read_on kind so_far l.left;
  text : take l.end l.row ≡ take l.fn.at l.fn.row ++ element_lines so_far;
  order : Ascends 1 128 l.left.numbers;
  fits : l.end + lines_room l.left.numbers + 16 ≤ length l.row;
  size : length l.row ≡ length l.fn.row;
}

abbrev pub decreases-loop-number : goal.decreases-loop-number
decreases-loop-number l = length l.left.numbers
