use Rattle.std.proofs.Common.{◌≡◌, ℕ, List, [], take}
use Rattle.element_spans.specs.Spans.{Locates}
use Rattle.element_spans.specs.Building.{with_elements}
use Rattle.element_spans.proofs.building.build.Given as goal

abbrev pub invariant-loop-span : goal.invariant-loop-span
invariant-loop-span l = record {
  elements : List (ℕ × List ℕ);
  located : Locates l.bytes elements (take l.span-index l.spans);
  is : l.message ≡ with_elements (record { kind = l.fn.kind; elements = [] }) elements;
}
