use Rattle.std.proofs.Common.{◌≡◌, ◌++◌, drop}
use Rattle.network_picture.specs.Made.{by_place, arrow, arrows_of}
use Rattle.network_picture.proofs.nodes.AtClass.add_arrows_of.Given as goal

-- the links so far, and those that follow
abbrev pub invariant-loop-place : goal.invariant-loop-place
invariant-loop-place l =
    l.arrows.items ++ by_place (arrow l.self.tables.now l.is_refused l.node) l.place (drop l.place l.links) ≡ l.fn.arrows.items ++ arrows_of l.self.tables.now l.self.found.now l.node l.row
