use Rattle.std.proofs.Common.{refl}
use Rattle.prefix_map.proofs.Written.{next_some, next_none}
use Rattle.prefix_map.proofs.node.next.Goals as goal

pub returns-then-at-place : goal.returns-then-at-place
returns-then-at-place g c = next_some c.args.nodes.now c.args.at c.index-nodes-at.result c.args.digit _ c.requires.within refl c.if-at-place.true

pub returns-else-at-place : goal.returns-else-at-place
returns-else-at-place g c = next_none c.args.nodes.now c.args.at c.index-nodes-at.result c.args.digit _ c.requires.within refl c.if-at-place.false
