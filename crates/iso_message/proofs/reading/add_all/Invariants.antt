use Rattle.std.proofs.Common.{◌≡◌, length}
use Rattle.iso_message.specs.Elements.{with_all}
use Rattle.iso_message.specs.Messages.{marks}
use Rattle.message_bytes.specs.Known.{IsKnown}
use Rattle.iso_message.specs.Parts.{IsEnd}
use Rattle.iso_message.proofs.reading.add_all.Given as goal

abbrev pub invariant-loop-left : goal.invariant-loop-left
invariant-loop-left l = record {
  known : IsKnown l.known l.rest;
  end : IsEnd l.rest l.parts.body;
  so_far : with_all l.parts.elements (marks l.last 64 l.left) l.rest ≡ with_all l.fn.parts.elements (marks l.last 64 l.map) l.bytes;
}

abbrev pub decreases-loop-left : goal.decreases-loop-left
decreases-loop-left l = length (marks l.last 64 l.left)
