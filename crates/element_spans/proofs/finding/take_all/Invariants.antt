use Rattle.std.proofs.Common.{◌≡◌, ◌+◌, ◌≤◌, ℕ, List, [], length, take}
use Rattle.message_elements.specs.declared.kind.Kind.{Kind}
use Rattle.iso_message.specs.Spelling.{Ascends}
use Rattle.iso_message.specs.Unread.{read_on}
use Rattle.message_text.specs.Room.{lines_room}
use Rattle.element_spans.specs.Spans.{spans_from, end_from}
use Rattle.element_spans.proofs.finding.take_all.Given as goal

abbrev pub invariant-loop-number : goal.invariant-loop-number
invariant-loop-number l = record {
  so_far : List (ℕ × List ℕ);
  same : (kind : Kind) → read_on kind [] l.fn.unread ≡ read_on kind so_far l.left;
  counted : l.count ≡ length so_far;
  ended : l.end ≡ end_from 0 so_far;
  laid : l.count ≤ length l.spans → take l.count l.spans ≡ spans_from 0 so_far;
  order : Ascends 1 128 l.left.numbers;
  fits : l.count + l.end + lines_room l.left.numbers ≤ 14000;
}

abbrev pub decreases-loop-number : goal.decreases-loop-number
decreases-loop-number l = length l.left.numbers
