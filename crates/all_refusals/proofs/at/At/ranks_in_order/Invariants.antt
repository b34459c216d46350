use Rattle.std.specs.Prelude.{ℕ}
use Rattle.table_checker.specs.Ranks.{rank_at}
use Rattle.all_refusals.specs.Known.{IsFound, lookup_at}
use Rattle.all_refusals.proofs.at.At.ranks_in_order.Given as goal

-- those that were looked up so far
abbrev pub invariant-loop-i : goal.invariant-loop-i
invariant-loop-i l = (n : ℕ) → IsFound (rank_at l.self.tables.now l.self.cert.now n l.self.class) (lookup_at l.found n)
