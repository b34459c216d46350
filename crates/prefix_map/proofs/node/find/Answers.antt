use Rattle.std.proofs.Common.{sym, ◌∙◌}
use Rattle.prefix_map.specs.Walk.{pairs}
use Rattle.prefix_map.proofs.Lookups.{stands}
use Rattle.prefix_map.proofs.node.find.Goals as goal

pub returns-then-is_at : goal.returns-then-is_at
returns-then-is_at g c = stands (pairs c.args.nodes.now) c.args.last c.args.prefix.now (sym c.is_at.ensures ∙ c.if-is_at.true)
