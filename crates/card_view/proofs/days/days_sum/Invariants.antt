use Rattle.std.proofs.Common.{◌≡◌, ◌≤◌, ◌*◌}
use Rattle.net_rows.specs.Network.{day}
use Rattle.network_law.specs.Checked.{sum_below}
use Rattle.card_view.proofs.days.days_sum.Given as goal

abbrev pub invariant-loop-place : goal.invariant-loop-place
invariant-loop-place l = record {
  summed : l.sum ≡ sum_below (λ n. day l.tables n l.card) l.place;
  fits : l.sum ≤ l.place * 1_000_000_000_000;
}
