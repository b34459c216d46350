use Rattle.table_checker.specs.Ranks.{rank_at}
use Rattle.all_refusals.specs.declared.ranks.Lookup.TheVariants as lookups
use Rattle.all_refusals.specs.Known.{IsFound}
use Rattle.all_refusals.proofs.LookedUp.{set_each}
use Rattle.all_refusals.proofs.at.At.look_up.Goals as goal

pub returns : goal.returns
returns c =
    let all = set_each (λ n. IsFound (rank_at c.args.self.now.tables.now c.args.self.now.cert.now n c.args.self.now.class)) c.args.ranks.now.found c.args.node (lookups.Done c.rank-rank.result) c.requires c.rank-rank.ensures in
    rw c.set.ensures all
