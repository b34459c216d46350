use Rattle.message_bytes.proofs.KnownLemmas.{known_dropped}
use Rattle.iso_message.proofs.reading.length_of.Goals as goal

pub returns-clause-known : goal.returns-clause-known
returns-clause-known c = rw c.split_at.ensures.back (known_dropped c.args.known.now c.args.width c.args.bytes.now c.requires.known)
