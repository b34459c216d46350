use Rattle.std.proofs.Common.{◌≡◌, map, take, drop}
use Rattle.element_spans.specs.Spans.{moved}
use Rattle.element_spans.proofs.finding.move_on.Given as goal

abbrev pub invariant-loop-span : goal.invariant-loop-span
invariant-loop-span l = record {
  done : take l.span-index l.spans ≡ map (moved l.fn.by) (take l.span-index l.fn.spans);
  left : drop l.span-index l.spans ≡ drop l.span-index l.fn.spans;
}
