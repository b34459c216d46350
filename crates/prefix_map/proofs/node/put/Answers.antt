use Rattle.std.proofs.Common.{refl}
use Rattle.prefix_map.proofs.Written.{pairs_put, next_kept}
use Rattle.prefix_map.proofs.node.put.Goals as goal

pub returns-clause-pairs : goal.returns-clause-pairs
returns-clause-pairs g c = pairs_put c.args.nodes.now.items c.args.at c.index_mut.result.now _ c.requires c.index_mut.ensures.value refl

pub returns-clause-next : goal.returns-clause-next
returns-clause-next g c = next_kept c.args.nodes.now.items c.args.at c.index_mut.result.now _ c.requires c.index_mut.ensures.value refl
