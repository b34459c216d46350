use Rattle.std.proofs.Common.{◌≡◌, ◌++◌, map, drop}
use Rattle.card_digits.specs.Numbers.{pad11}
use Rattle.net_rows.specs.declared.row.Node.{Node}
use Rattle.table_checker.proofs.ids.node_ids.Given as goal

abbrev pub invariant-loop-node : goal.invariant-loop-node
invariant-loop-node l = l.ids.items ++ map (λ (x : Node). pad11 x.id) (drop l.node-index l.nodes) ≡ map (λ (x : Node). pad11 x.id) l.nodes
