use Rattle.all_refusals.specs.Rows.{Adds}
use Rattle.all_refusals.specs.Found.{each_below, unnamed}
use Rattle.all_refusals.proofs.at.At.add_unnamed.Given as goal

abbrev pub invariant-loop-i : goal.invariant-loop-i
invariant-loop-i l = Adds l.self.tables.now l.fn.found.items l.found.items (each_below (unnamed l.self.tables.now l.self.cert.now l.self.class l.named) l.i)
