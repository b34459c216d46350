use Rattle.std.proofs.Common.{sym, ◌∙◌, ap}
use Rattle.card_digits.specs.Numbers.{pad11}
use Rattle.iso_message.proofs.MessageLemmas.{id_short}
use Rattle.step_rules.proofs.Values.{own_acquirer}
use Rattle.step_rules.proofs.elements.acquirer_of.Goals as goal

pub pad11-requires : goal.pad11-requires
pad11-requires c = rw c.bytes_of.ensures (id_short c.args.message.now c.kind.ensures.is_message)

pub returns : goal.returns
returns c = c.pad11.ensures ∙ ap pad11 c.bytes_of.ensures ∙ sym (own_acquirer c.args.message.now)
