use Rattle.std.proofs.Common.{◌∙◌}
use Rattle.standin_book.proofs.lending.LendingBook.was_taken.Goals as goal

pub returns : goal.returns
returns c = rw (← c.self.view_is) (c.contains.ensures ∙ c.self.invariant.0.numbered (record { lender = c.args.grant.now.lender; number = c.args.grant.now.number }))
