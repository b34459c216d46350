use Rattle.message_bytes.proofs.KnownLemmas.{known_dropped}
use Rattle.iso_message.proofs.unread.Unread.take_plain.Goals as goal

pub invariant_of-self : goal.invariant_of-self
invariant_of-self c = rw c.split_at.ensures.back (known_dropped c.in_ok-self-inside-in-Some.field-0 c.in-Some.head.size c.in-Some.head.front.now c.in_ok-self-inside-in-Some.ensures.known)
