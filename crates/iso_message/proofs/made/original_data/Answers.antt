use Rattle.iso_message.proofs.MessageLemmas.{id_short}
use Rattle.iso_message.proofs.made.original_data.Goals as goal

pub pad11-requires : goal.pad11-requires
pad11-requires c = rw c.bytes_of-3.ensures (id_short c.args.message.now c.kind.ensures.is_message)
