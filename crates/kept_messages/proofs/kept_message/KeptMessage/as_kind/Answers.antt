use Rattle.kept_messages.proofs.Spelled.{typed_kept}
use Rattle.kept_messages.proofs.kept_message.KeptMessage.as_kind.Goals as goal

pub invariant_of-result : goal.invariant_of-result
invariant_of-result c = (typed_kept c.self.inside.bytes c.args.bytes c.self.inside.kind c.args.kind c.self.inside.code c.args.self.now c.self.invariant c.self.view_is c.requires).0

pub returns : goal.returns
returns c = (typed_kept c.self.inside.bytes c.args.bytes c.self.inside.kind c.args.kind c.self.inside.code c.args.self.now c.self.invariant c.self.view_is c.requires).1
