use Rattle.table_checker.proofs.Codes.{unknown_at, set_known}
use Rattle.table_checker.proofs.class.At.ranks_in_order.Goals as goal

pub loop-i-init : goal.loop-i-init
loop-i-init c = λ n code h. unknown_at _ n code h

pub loop-i-preserved : goal.loop-i-preserved
loop-i-preserved c = set_known c.args.self.now c.loop-i.ranks c.loop-i.i c.next_code.result c.loop-i.invariant c.next_code.ensures
