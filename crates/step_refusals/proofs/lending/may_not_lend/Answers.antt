use Rattle.std.proofs.Common.{◌≡◌, ◌≢◌, ◌-◌, sym, ap, ◌∙◌}
use Rattle.node_machine.specs.Lists.{view}
use Rattle.node_machine.specs.Machine.{allowance, used}
use Rattle.node_machine.proofs.Calls.{used_is}
use Rattle.step_refusals.proofs.Lends.{by_what_is_left}
use Rattle.step_refusals.proofs.lending.may_not_lend.Goals as goal

pub returns-else-not-is_named : goal.returns-else-not-is_named
returns-else-not-is_named c =
    let t = c.args.tables.now in
    let x = c.args.books.now.lists in
    let b = view t c.args.node x in
    let card = c.args.card.now in
    let date = c.args.date.now in
    let some : c.args.amount ≢ 0 = λ none. c.if-value-eq0.false (c.value.ensures.value ∙ none) in
    let left : c.saturating_sub-left.result ≡ allowance t c.args.node b card date - used b card date =
    c.saturating_sub-left.ensures ∙ rw (c.allowance.ensures, c.used.ensures.used) (ap (λ u. allowance t c.args.node b card date - u) (used_is t c.args.node x card date c.requires)) in
    rw c.value-else-not-is_named.ensures.value (by_what_is_left t c.args.node b c.args.borrower card date c.args.amount c.saturating_sub-left.result c.if-not-are_linked.ensures some (sym c.if-not-is_named.ensures) left)
