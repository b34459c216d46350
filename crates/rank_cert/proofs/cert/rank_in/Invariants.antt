use Rattle.std.proofs.Common.{◌≡◌, drop}
use Rattle.rank_rows.specs.Ranks.{rank_of}
use Rattle.rank_cert.proofs.cert.rank_in.Given as goal

abbrev pub invariant-loop-i : goal.invariant-loop-i
invariant-loop-i l = rank_of (drop l.i l.rows) l.node l.prefix ≡ rank_of l.rows l.node l.prefix
