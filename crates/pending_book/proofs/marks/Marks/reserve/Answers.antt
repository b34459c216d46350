use Rattle.std.proofs.Common.{rules}
use Rattle.pending_book.proofs.Least.{least_same}
use Rattle.pending_book.proofs.marks.Marks.reserve.Goals as goal

pub invariant_of-self-in_err-reserve-2 : goal.invariant_of-self-in_err-reserve-2
invariant_of-self-in_err-reserve-2 c =
    let kept = least_same c.self.inside.list.items c.self.inside.least.entries c.reserve-2.new.self.entries c.reserve-2.ensures.entries c.self.invariant.0 in
    (rw c.reserve.ensures.items kept, search rules, search rules)

pub invariant_of-self-2 : goal.invariant_of-self-2
invariant_of-self-2 c =
    let kept = least_same c.self.inside.list.items c.self.inside.least.entries c.reserve-2.new.self.entries c.reserve-2.ensures.entries c.self.invariant.0 in
    search rules
