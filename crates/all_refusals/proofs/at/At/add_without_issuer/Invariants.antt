use Rattle.all_refusals.specs.Rows.{Adds}
use Rattle.all_refusals.specs.Found.{each_below, without_issuer}
use Rattle.all_refusals.proofs.at.At.add_without_issuer.Given as goal

abbrev pub invariant-loop-i : goal.invariant-loop-i
invariant-loop-i l = Adds l.self.tables.now l.fn.found.items l.found.items (each_below (without_issuer l.self.tables.now l.self.cert.now l.self.class) l.i)
