use Rattle.std.proofs.Common.{◌≡◌}
use Rattle.network_picture.specs.Made.{arrows_below}
use Rattle.network_picture.proofs.nodes.AtClass.arrows.Given as goal

abbrev pub invariant-loop-place : goal.invariant-loop-place
invariant-loop-place l = l.arrows.items ≡ arrows_below l.self.tables.now l.self.class.now l.self.found.now l.place
