use Rattle.std.proofs.Common.{ap, unwrap_or}
use Rattle.book_index.proofs.sums.Sums.reserve.Goals as goal

pub returns-clause-sums : goal.returns-clause-sums
returns-clause-sums c = λ day. ap (λ m. unwrap_or m 0) (c.reserve.ensures.entries day)
