use Rattle.std.proofs.Common.{arith}
use Rattle.std.proofs.lemmas.Fmt.{decimal_digit}
use Rattle.rank_cert.proofs.Lines.{two_digits}
use Rattle.rank_cert.proofs.write.put_rank.Goals as goal

pub returns-then-rank-lt10-clause-text : goal.returns-then-rank-lt10-clause-text
returns-then-rank-lt10-clause-text c = rw (decimal_digit c.args.rank (omega arith)) c.put.ensures.text

pub returns-then-rank-lt100-clause-text : goal.returns-then-rank-lt100-clause-text
returns-then-rank-lt100-clause-text c = rw (two_digits c.args.rank (omega arith) (omega arith)) c.put-then-rank-lt100.ensures.text
