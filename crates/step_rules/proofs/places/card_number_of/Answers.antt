use Rattle.step_rules.proofs.Values.{card_few}
use Rattle.step_rules.proofs.places.card_number_of.Goals as goal

pub returns-clause-digits : goal.returns-clause-digits
returns-clause-digits c = rw c.bytes_of.ensures (card_few c.args.message.now c.kind.ensures.is_message).digits
