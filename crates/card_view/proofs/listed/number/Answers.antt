use Rattle.std.proofs.Common.{arith}
use Rattle.card_view.proofs.listed.number.Goals as goal

pub returns : goal.returns
returns c = omega arith
