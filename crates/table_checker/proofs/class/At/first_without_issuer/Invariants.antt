use Rattle.std.proofs.Common.{◌≡◌, None}
use Rattle.table_checker.specs.Search.{first_below}
use Rattle.table_checker.specs.Rules.{no_issuer}
use Rattle.table_checker.proofs.class.At.first_without_issuer.Given as goal

abbrev pub invariant-loop-i : goal.invariant-loop-i
invariant-loop-i l = first_below (no_issuer l.self.tables.now l.self.cert.now l.self.class) l.i ≡ None
