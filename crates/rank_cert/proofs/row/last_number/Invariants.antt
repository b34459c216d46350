use Rattle.rank_cert.proofs.Ranked.{IsReadTo}
use Rattle.rank_cert.proofs.row.last_number.Given as goal

abbrev pub invariant-loop-i : goal.invariant-loop-i
invariant-loop-i l = IsReadTo l.text l.i l.number
