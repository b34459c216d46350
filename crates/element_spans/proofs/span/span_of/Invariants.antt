use Rattle.std.proofs.Common.{◌≡◌, drop}
use Rattle.element_spans.specs.Spans.{span_of}
use Rattle.element_spans.proofs.span.span_of.Given as goal

abbrev pub invariant-loop-span : goal.invariant-loop-span
invariant-loop-span l = span_of l.number l.spans ≡ span_of l.number (drop l.span-index l.spans)
