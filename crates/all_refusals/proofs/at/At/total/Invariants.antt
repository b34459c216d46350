use Rattle.std.proofs.Common.{◌≡◌, ◌≤◌, ◌*◌}
use Rattle.net_rows.specs.Network.{day}
use Rattle.network_law.specs.Checked.{sum_below}
use Rattle.all_refusals.proofs.at.At.total.Given as goal

abbrev pub invariant-loop-i : goal.invariant-loop-i
invariant-loop-i l = record {
  summed : l.total ≡ sum_below (λ n. day l.self.tables.now n l.self.class) l.i;
  fits : l.total ≤ l.i * 1_000_000_000_000;
}
