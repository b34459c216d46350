use Rattle.std.proofs.Common.{◌≡◌, ◌≤◌, ◌*◌}
use Rattle.net_rows.specs.Network.{day}
use Rattle.table_checker.specs.declared.refusal.Kind.TheVariants as kind
use Rattle.table_checker.specs.Search.{first_below}
use Rattle.network_law.specs.Checked.{sum_below}
use Rattle.table_checker.specs.Rules.{node_refusal}
use Rattle.table_checker.proofs.class.At.by_day.Given as goal

abbrev pub invariant-loop-i : goal.invariant-loop-i
invariant-loop-i l = record {
  not_named : l.not_named ≡ first_below (node_refusal l.self.tables.now l.self.cert.now l.self.class kind.NotNamed l.issuer) l.i;
  summed : l.total ≡ sum_below (λ n. day l.self.tables.now n l.self.class) l.i;
  fits : l.total ≤ l.i * 1_000_000_000_000;
}
