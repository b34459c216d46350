use Rattle.std.proofs.Common.{sym}
use Rattle.table_checker.proofs.Codes.{rank_is, none_is}
use Rattle.table_checker.proofs.class.At.rank.Goals as goal

pub returns-then-code-lt-NO_RANK-clause-rank : goal.returns-then-code-lt-NO_RANK-clause-rank
returns-then-code-lt-NO_RANK-clause-rank c =
    rw c.code_at-code.ensures (sym (rank_is c.args.self.now c.args.known.now.ranks c.requires.ranks c.args.node (rw (← c.code_at-code.ensures) c.if-code-lt-NO_RANK.true)))

pub returns-then-code-eq-NO_RANK-clause-rank : goal.returns-then-code-eq-NO_RANK-clause-rank
returns-then-code-eq-NO_RANK-clause-rank c = sym (none_is c.args.self.now c.args.known.now.ranks c.requires.ranks c.args.node (rw (← c.code_at-code.ensures) c.if-code-eq-NO_RANK.true))
