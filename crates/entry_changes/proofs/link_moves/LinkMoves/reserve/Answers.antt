use Rattle.std.proofs.Common.{ap}
use Rattle.std.specs.Prelude.{unwrap_or}
use Rattle.entry_changes.specs.Late.{unmoved}
use Rattle.entry_changes.proofs.link_moves.LinkMoves.reserve.Goals as goal

pub returns-clause-moves : goal.returns-clause-moves
returns-clause-moves c = λ l. ap (λ m. unwrap_or m unmoved) (c.reserve.ensures.entries.2 l)
