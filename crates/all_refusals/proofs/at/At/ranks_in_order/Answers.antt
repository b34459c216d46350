use Rattle.table_checker.specs.Ranks.{rank_at}
use Rattle.all_refusals.specs.Known.{IsFound}
use Rattle.all_refusals.proofs.LookedUp.{open_at, set_each}
use Rattle.all_refusals.proofs.at.At.ranks_in_order.Goals as goal

pub loop-i-init : goal.loop-i-init
loop-i-init c = λ n. rw (open_at 64 n) tt

pub loop-i-preserved : goal.loop-i-preserved
loop-i-preserved c = set_each (λ n. IsFound (rank_at c.args.self.now.tables.now c.args.self.now.cert.now n c.args.self.now.class)) c.loop-i.found c.loop-i.i c.next_lookup.result c.loop-i.invariant c.next_lookup.ensures
