use Rattle.std.proofs.Common.{◌≡◌, ◌++◌, map, drop}
use Rattle.card_digits.specs.Numbers.{pad11}
use Rattle.net_rows.specs.declared.row.Acquirer.{Acquirer}
use Rattle.table_checker.proofs.ids.acquirer_ids.Given as goal

abbrev pub invariant-loop-acquirer : goal.invariant-loop-acquirer
invariant-loop-acquirer l = l.ids.items ++ map (λ (x : Acquirer). pad11 x.id) (drop l.acquirer-index l.acquirers) ≡ map (λ (x : Acquirer). pad11 x.id) l.acquirers
