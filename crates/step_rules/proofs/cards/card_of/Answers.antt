use Rattle.step_rules.proofs.CardsRead.{card_read, known_digits}
use Rattle.step_rules.proofs.cards.card_of.Goals as goal

pub read_known-requires : goal.read_known-requires
read_known-requires c = rw c.bytes_of.ensures (known_digits c.args.message.now c.kind.ensures.is_message)

pub returns-clause-card : goal.returns-clause-card
returns-clause-card c = rw (c.ok.ensures.value, c.read_known.ensures, c.bytes_of.ensures) (card_read c.args.message.now)
