use Rattle.std.proofs.Common.{◌≡◌}
use Rattle.table_checker.specs.declared.refusal.Kind.TheVariants as kind
use Rattle.table_checker.specs.Search.{first_below}
use Rattle.table_checker.specs.Rules.{node_refusal}
use Rattle.table_checker.specs.Known.{IsKept}
use Rattle.table_checker.proofs.class.At.by_rank.Given as goal

abbrev pub invariant-loop-i : goal.invariant-loop-i
invariant-loop-i l = record {
  known : IsKept l.self l.known;
  no_rank : l.first.no_rank ≡ first_below (node_refusal l.self.tables.now l.self.cert.now l.self.class kind.NoRank l.issuer) l.i;
  not_less : l.first.not_less ≡ first_below (node_refusal l.self.tables.now l.self.cert.now l.self.class kind.NotLess l.issuer) l.i;
}
