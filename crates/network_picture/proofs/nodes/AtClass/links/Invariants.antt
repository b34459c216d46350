use Rattle.std.proofs.Common.{◌≡◌, ◌++◌, drop}
use Rattle.network_picture.specs.Made.{by_place, link_line, link_lines}
use Rattle.network_picture.proofs.nodes.AtClass.links.Given as goal

-- the links so far, and those that follow
abbrev pub invariant-loop-place : goal.invariant-loop-place
invariant-loop-place l = l.links.items ++ by_place (link_line l.self.found.now) l.place (drop l.place l.rows) ≡ link_lines l.self.tables.now l.self.found.now
