use Rattle.all_refusals.specs.Known.{AreRanks}
use Rattle.all_refusals.proofs.at.At.look_up_along.Given as goal

abbrev pub invariant-loop-link : goal.invariant-loop-link
invariant-loop-link l = AreRanks l.self l.ranks
