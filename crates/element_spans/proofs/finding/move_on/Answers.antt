use Rattle.std.proofs.Common.{◌+◌, ◌^◌, ◌<◌, get_or, ap, arith}
use Rattle.element_spans.specs.declared.span.ElementSpan.{ElementSpan}
use Rattle.element_spans.proofs.SpanLemmas.{any, same_left, moved_more}
use Rattle.element_spans.proofs.finding.move_on.Goals as goal

pub overflow_add-span : goal.overflow_add-span
overflow_add-span c =
    let i = c.loop-span.span-index in
    let same = same_left c.loop-span.spans c.args.spans.now i c.loop-span-test.true c.loop-span.invariant.left in
    let fits : (get_or c.args.spans.now i any).start + c.args.by < 2 ^ 64 = c.requires i any c.loop-span-test.true in
    omega (arith, ap (λ (s : ElementSpan). s.start) same.1, fits)

pub loop-span-preserved : goal.loop-span-preserved
loop-span-preserved c =
    let i = c.loop-span.span-index in
    let same = same_left c.loop-span.spans c.args.spans.now i c.loop-span-test.true c.loop-span.invariant.left in
    let more = moved_more c.loop-span.spans c.args.spans.now i c.args.by any same.0 c.loop-span-test.true c.loop-span.invariant.done c.loop-span.invariant.left in
    record { done = more.0; left = more.1 }
