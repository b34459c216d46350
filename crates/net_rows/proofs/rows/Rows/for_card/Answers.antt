use Rattle.std.proofs.Common.{◌∙◌}
use Rattle.net_rows.proofs.Fronts.{longest_of_front}
use Rattle.net_rows.proofs.rows.Rows.for_card.Goals as goal

pub returns : goal.returns
returns g c =
    c.for_class.ensures
    ∙ rw c.of.ensures (longest_of_front g.R.Prefixed.node_of g.R.Prefixed.prefix_of c.args.node c.args.card.now c.args.self.now (rw (← c.self.view_is) c.self.invariant.prefixes))
