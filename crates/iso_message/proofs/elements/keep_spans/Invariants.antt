use Rattle.std.proofs.Common.{◌≡◌, ◌≤◌, ◌++◌, drop, length, vec_len, vec_capacity}
use Rattle.iso_message.specs.Made.{kept}
use Rattle.iso_message.specs.Carried.{carried_numbers}
use Rattle.iso_message.specs.Spans.{seen, AreWithin}
use Rattle.iso_message.proofs.elements.keep_spans.Given as goal

abbrev pub invariant-loop-span : goal.invariant-loop-span
invariant-loop-span l = record {
  later : AreWithin l.values (drop l.span-index l.spans);
  few : vec_len l.kept_spans ≤ l.span-index;
  room : length l.spans ≤ vec_capacity l.kept_spans;
  within : AreWithin l.values l.kept_spans.items;
  so_far : seen l.values l.kept_spans.items ++ kept (carried_numbers l.carried) (seen l.values (drop l.span-index l.spans)) ≡ kept (carried_numbers l.carried) (seen l.values l.spans);
}
