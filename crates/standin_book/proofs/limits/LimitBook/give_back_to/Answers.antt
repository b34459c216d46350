use Rattle.std.proofs.Common.{◌∙◌, ◌≡◌, ap, sym, false, List}
use Rattle.std.specs.List.{list_any}
use Rattle.node_machine.specs.Lists.{Take}
use Rattle.standin_book.specs.Approvals.{counts_above}
use Rattle.standin_book.specs.Limits.{Limits}
use Rattle.standin_book.proofs.Once.{none_lessened, once_lessened}
use Rattle.standin_book.proofs.limits.LimitBook.give_back_to.Goals as goal

pub returns-then-not-counts_above-clause-takes : goal.returns-then-not-counts_above-clause-takes
returns-then-not-counts_above-clause-takes c =
    let now : Limits = c.args.self.now in
    let none : c.counts_above.result ≡ false = c.if-not-counts_above.true in
    let e = ap (λ (v : Limits). list_any (counts_above c.args.key c.args.actual) v.takes) c.self.view_is in
    let F : List Take → Limits = λ xs. record { takes = xs; loans = now.loans; borrowed = now.borrowed } in
    sym (ap F (none_lessened c.args.key c.args.actual now.takes (sym e ∙ (sym c.counts_above.ensures ∙ none))))

pub invariant_of-self : goal.invariant_of-self
invariant_of-self c = rw c.give_back.ensures (once_lessened c.self.inside.approvals.takes c.args.key c.args.actual c.self.invariant)
