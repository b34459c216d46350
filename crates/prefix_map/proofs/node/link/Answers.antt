use Rattle.std.proofs.Common.{refl}
use Rattle.prefix_map.proofs.Written.{pairs_kept, next_other}
use Rattle.prefix_map.proofs.node.link.Goals as goal

pub returns-clause-others : goal.returns-clause-others
returns-clause-others g c = next_other c.args.nodes.now.items c.args.at c.index_mut.result.now _ c.args.digit c.args.place c.requires.within c.index_mut.ensures.value refl

pub returns-clause-pairs : goal.returns-clause-pairs
returns-clause-pairs g c = pairs_kept c.args.nodes.now.items c.args.at c.index_mut.result.now _ c.requires.within c.index_mut.ensures.value refl refl
