use Rattle.std.proofs.Common.{◌∙◌}
use Rattle.standin_book.proofs.lending.LendingBook.has_number.Goals as goal

pub returns : goal.returns
returns c = rw (← c.self.view_is) (c.contains.ensures ∙ c.self.invariant.0.numbered (record { lender = c.args.lender; number = c.args.number }))
