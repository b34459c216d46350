use Rattle.std.proofs.Common.{arith}
use Rattle.net_operate.specs.Sessions.{SessionFits}
use Rattle.net_operate.proofs.Pairs.{zip_more}
use Rattle.net_operate.proofs.session_ends.fitted.Goals as goal

pub loop-session-preserved : goal.loop-session-preserved
loop-session-preserved c =
    rw c.in_ok-push.ensures.items
    (zip_more SessionFits c.args.sessions.now c.loop-session.all.items c.loop-session.session-index c.session-item.result c.in_ok-fitted_session.field-0 (omega arith) c.session-item.is c.in_ok-fitted_session.ensures c.loop-session.invariant)
