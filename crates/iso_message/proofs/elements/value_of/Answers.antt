use Rattle.std.proofs.Common.{◌∙◌}
use Rattle.iso_message.proofs.Finding.{within_at, found_at, missed_at, none_left}
use Rattle.iso_message.proofs.elements.value_of.Goals as goal

pub returns-then-span-number : goal.returns-then-span-number
returns-then-span-number c = rw (c.start.ensures, c.end.ensures) (c.loop-span.invariant.same ∙ found_at c.args.number c.args.values.now c.args.spans.now c.loop-span.span-index c.loop-span-test.true c.if-span-number.true)

pub loop-span-preserved : goal.loop-span-preserved
loop-span-preserved c = record {
  same = c.loop-span.invariant.same ∙ missed_at c.args.number c.args.values.now c.args.spans.now c.loop-span.span-index c.loop-span-test.true c.if-span-number.false;
  within = (within_at c.args.values.now c.args.spans.now c.loop-span.span-index c.loop-span-test.true c.loop-span.invariant.within).1;
}

pub returns : goal.returns
returns c = c.loop-span.invariant.same ∙ none_left c.args.number c.args.values.now c.args.spans.now c.loop-span.span-index c.loop-span-test.false
