use Rattle.std.proofs.Common.{◌≡◌, drop}
use Rattle.std.specs.List.{list_any}
use Rattle.std.specs.Prelude.{◌==◌, ◌&&◌, bytes_eq}
use Rattle.card_digits.specs.Numbers.{pad11}
use Rattle.step_rules.proofs.places.is_attached.Given as goal

-- if an acquirer is attached, then one of those that are left
abbrev pub invariant-loop-row : goal.invariant-loop-row
invariant-loop-row l = list_any (λ row. (row.node == l.node) && bytes_eq (pad11 row.id) l.acquirer) l.fn.tables.acquirers ≡ list_any (λ row. (row.node == l.node) && bytes_eq (pad11 row.id) l.acquirer) (drop l.row-index l.row-items)
