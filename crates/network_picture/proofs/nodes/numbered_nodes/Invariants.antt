use Rattle.std.proofs.Common.{◌≡◌, ◌++◌, drop}
use Rattle.network_picture.specs.Made.{by_place, numbered}
use Rattle.network_picture.proofs.nodes.numbered_nodes.Given as goal

-- the nodes so far, and those that follow
abbrev pub invariant-loop-place : goal.invariant-loop-place
invariant-loop-place l = l.nodes.items ++ by_place numbered l.place (drop l.place l.rows) ≡ by_place numbered 0 l.tables.nodes
