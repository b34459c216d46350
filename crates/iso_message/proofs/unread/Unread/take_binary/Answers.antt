use Rattle.iso_message.proofs.Behind.{binary_behind}
use Rattle.iso_message.proofs.unread.Unread.take_binary.Goals as goal

pub invariant_of-self : goal.invariant_of-self
invariant_of-self c = binary_behind c.self.inside.known c.args.number c.self.inside.bytes.now c.in_ok-value.value c.in_ok-value.rest.now c.in_ok-value.ensures c.self.invariant
