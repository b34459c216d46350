use Rattle.all_refusals.specs.Known.{AreRanks}
use Rattle.all_refusals.proofs.at.At.ranks.Given as goal

abbrev pub invariant-loop-i : goal.invariant-loop-i
invariant-loop-i l = AreRanks l.self l.ranks
