use Rattle.std.proofs.Common.{◌≡◌, ◌+◌, drop}
use Rattle.iso_message.specs.Spans.{numbers}
use Rattle.iso_message.specs.Spelling.{Ascends, bits, low_numbers, high_numbers}
use Rattle.iso_message.proofs.elements.maps_of.Given as goal

abbrev pub invariant-loop-span : goal.invariant-loop-span
invariant-loop-span l = record {
  order : Ascends 1 128 (numbers (drop l.span-index l.spans));
  low : l.low + bits 64 (low_numbers (numbers (drop l.span-index l.spans))) ≡ bits 64 (low_numbers (numbers l.spans));
  high : l.high + bits 128 (high_numbers (numbers (drop l.span-index l.spans))) ≡ bits 128 (high_numbers (numbers l.spans));
}
