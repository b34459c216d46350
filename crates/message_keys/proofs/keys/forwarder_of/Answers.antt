use Rattle.std.proofs.Common.{sym}
use Rattle.message_keys.proofs.KeyLemmas.{forwarder_length}
use Rattle.message_keys.proofs.keys.forwarder_of.Goals as goal

pub pad11-requires : goal.pad11-requires
pad11-requires c = forwarder_length c.args.message.now c.kind.ensures.is_message _ (sym c.in-Some.ensures)
