use Rattle.std.proofs.Common.{◌≡◌, ◌<◌, ◌≤◌, ◌-◌, ◌++◌, drop, length}
use Rattle.std.specs.Prelude.{slice_range}
use Rattle.iso_message.specs.Spans.{text_of, seen}
use Rattle.iso_message.specs.Spelling.{pieces}
use Rattle.iso_message.proofs.elements.touching.Given as goal

abbrev pub invariant-loop-next : goal.invariant-loop-next
invariant-loop-next l = record {
  further : l.place < l.next;
  bound : l.next ≤ length l.spans;
  order : text_of l.fn.first ≤ l.end;
  inside : l.end ≤ length l.values;
  pieces : slice_range l.values (text_of l.fn.first) l.end ++ pieces (seen l.values (drop l.next l.spans)) ≡ pieces (seen l.values (drop l.place l.spans));
}

abbrev pub decreases-loop-next : goal.decreases-loop-next
decreases-loop-next l = length l.spans - l.next
