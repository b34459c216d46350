use Rattle.std.proofs.Common.{◌≡◌, ◌≤◌, ◌-◌, ◌++◌, drop, length}
use Rattle.iso_message.specs.Spans.{seen}
use Rattle.iso_message.specs.Spelling.{pieces}
use Rattle.iso_message.proofs.elements.push_pieces.Given as goal

abbrev pub invariant-loop-place : goal.invariant-loop-place
invariant-loop-place l = record {
  bound : l.place ≤ length l.spans;
  text : l.out.items ++ pieces (seen l.values (drop l.place l.spans)) ≡ l.fn.out.items ++ pieces (seen l.values l.spans);
}

abbrev pub decreases-loop-place : goal.decreases-loop-place
decreases-loop-place l = length l.spans - l.place
