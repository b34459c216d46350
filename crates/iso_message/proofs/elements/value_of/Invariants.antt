use Rattle.std.proofs.Common.{◌≡◌, drop}
use Rattle.iso_message.specs.Finding.{find_element}
use Rattle.iso_message.specs.Spans.{seen, AreWithin}
use Rattle.iso_message.proofs.elements.value_of.Given as goal

abbrev pub invariant-loop-span : goal.invariant-loop-span
invariant-loop-span l = record {
  same : find_element l.number (seen l.values l.spans) ≡ find_element l.number (seen l.values (drop l.span-index l.spans));
  within : AreWithin l.values (drop l.span-index l.spans);
}
