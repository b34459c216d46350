use Rattle.std.proofs.Common.{arith}
use Rattle.iso_message.proofs.Finding.{below_at, same_at, above_at, at_end}
use Rattle.iso_message.proofs.elements.search.Goals as goal

pub returns-then-found-number-clause-place : goal.returns-then-found-number-clause-place
returns-then-found-number-clause-place c s e = same_at s c.args.spans.now c.loop-place.place c.loop-place-test.true (omega arith) (c.loop-place.invariant s e)

pub returns-then-number-found-clause-place : goal.returns-then-number-found-clause-place
returns-then-number-found-clause-place c s e = above_at s c.args.spans.now c.loop-place.place c.loop-place-test.true (omega arith) (c.loop-place.invariant s e)

pub loop-place-preserved : goal.loop-place-preserved
loop-place-preserved c s e = below_at s c.args.spans.now c.loop-place.place c.loop-place-test.true (omega arith) (c.loop-place.invariant s e)

pub returns-clause-place : goal.returns-clause-place
returns-clause-place c s e = at_end s c.args.spans.now c.loop-place.place c.loop-place-test.false (c.loop-place.invariant s e)
