use Rattle.std.proofs.Common.{arith, subst}
use Rattle.net_operate.specs.Sessions.{LineFits}
use Rattle.net_operate.proofs.Pairs.{zip_at}
use Rattle.net_operate.proofs.session_ends.fitted_lines.Goals as goal

pub loop-k-preserved : goal.loop-k-preserved
loop-k-preserved c =
    rw c.in_ok-push.ensures.items
    (zip_at (λ x. LineFits x.now) c.args.lines.now c.loop-k.all.items c.loop-k.k c.in_ok-fitted_line.field-0 (omega arith) (λ d. subst (λ z. LineFits z c.in_ok-fitted_line.field-0) (c.line_at-line.ensures d) c.in_ok-fitted_line.ensures) c.loop-k.invariant)
