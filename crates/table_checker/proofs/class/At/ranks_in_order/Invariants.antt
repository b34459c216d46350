use Rattle.table_checker.specs.Known.{AreKnown}
use Rattle.table_checker.proofs.class.At.ranks_in_order.Given as goal

abbrev pub invariant-loop-i : goal.invariant-loop-i
invariant-loop-i l = AreKnown l.self l.ranks
