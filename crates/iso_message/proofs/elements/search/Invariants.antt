use Rattle.std.proofs.Common.{◌≡◌, ◌++◌, take, drop}
use Rattle.iso_message.specs.declared.elements.Span.{Span}
use Rattle.iso_message.specs.Spans.{placed}
use Rattle.iso_message.proofs.elements.search.Given as goal

abbrev pub invariant-loop-place : goal.invariant-loop-place
invariant-loop-place l = (s : Span) → s.number ≡ l.number → placed s l.spans ≡ take l.place l.spans ++ placed s (drop l.place l.spans)
