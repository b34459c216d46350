use Rattle.std.proofs.Common.{◌∙◌, ap}
use Rattle.pending_book.specs.NodeKept.{at_most}
use Rattle.pending_book.proofs.marks.Marks.left_of.Goals as goal

pub returns : goal.returns
returns c = rw (← c.self.view_is) (c.at_most.ensures ∙ (ap (λ o. at_most o c.args.amount) (c.copied.ensures ∙ c.get.ensures) ∙ c.self.invariant.0.left c.args.key c.args.amount))
