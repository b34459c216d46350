use Rattle.std.proofs.Common.{◌∙◌, arith}
use Rattle.plan_state.proofs.Stands.{stands_later}
use Rattle.plan_state.proofs.wanted.Wanted.stands_in.Goals as goal

pub loop-i-preserved : goal.loop-i-preserved
loop-i-preserved c = c.loop-i.invariant ∙ stands_later c.args.self.now c.args.bytes.now c.loop-i.i (omega arith) c.if-begins.ensures
