use Rattle.std.proofs.Common.{sym, ◌∙◌}
use Rattle.card_digits.specs.Digits.{digits_of}
use Rattle.net_rows.proofs.Fronts.{longest_of_front}
use Rattle.net_rows.proofs.Numbers.{some_front, no_front, none_met}
use Rattle.net_rows.proofs.rows.Rows.for_number.Goals as goal

pub returns-in-Ok : goal.returns-in-Ok
returns-in-Ok g c =
    let prefix = some_front c.args.number.now c.requires c.min.result c.in-Ok.prefix c.min.ensures c.in-Ok.ensures in
    c.for_class.ensures
    ∙ rw prefix (longest_of_front g.R.Prefixed.node_of g.R.Prefixed.prefix_of c.args.node (digits_of c.args.number.now) c.args.self.now (rw (← c.self.view_is) c.self.invariant.prefixes))

pub returns-in-Err : goal.returns-in-Err
returns-in-Err g c =
    let none = no_front c.args.number.now c.requires c.min.result c.in-Err.field-0 c.min.ensures c.in-Err.ensures in
    rw none (sym (none_met g.R.Prefixed.node_of g.R.Prefixed.prefix_of c.args.node c.args.self.now (rw (← c.self.view_is) c.self.invariant.prefixes)))
