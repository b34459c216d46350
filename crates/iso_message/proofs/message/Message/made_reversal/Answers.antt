use Rattle.iso_message.proofs.MessageLemmas.{original_fits}
use Rattle.iso_message.proofs.message.Message.made_reversal.Goals as goal

pub put-requires : goal.put-requires
put-requires c = rw (c.deref.ensures.value, c.in_ok-original.ensures) (original_fits c.args.self.now c.kind.ensures.is_message c.requires.key)
