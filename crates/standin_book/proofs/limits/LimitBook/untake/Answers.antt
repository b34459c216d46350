use Rattle.std.proofs.Common.{◌∙◌, ap}
use Rattle.standin_book.specs.Limits.{Limits, counts_whole}
use Rattle.standin_book.proofs.Once.{once_without, whole_once}
use Rattle.standin_book.proofs.limits.LimitBook.untake.Goals as goal

pub untake-requires : goal.untake-requires
untake-requires c = whole_once c.args.key c.self.inside.approvals.takes (ap (λ (v : Limits). counts_whole c.args.key v.takes) c.self.view_is ∙ c.requires) c.self.invariant

pub invariant_of-self : goal.invariant_of-self
invariant_of-self c = rw c.untake.ensures (once_without c.self.inside.approvals.takes c.args.key c.self.invariant)
