use Rattle.message_bytes.proofs.KnownLemmas.{known_dropped}
use Rattle.iso_message.proofs.reading.content_of.Goals as goal

pub returns-clause-known : goal.returns-clause-known
returns-clause-known c = rw c.split_at.ensures.back (known_dropped c.is_front.new.self c.args.size c.args.bytes.now c.is_front.ensures.known)
