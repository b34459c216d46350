use Rattle.std.proofs.Common.{rules}
use Rattle.picture_text.proofs.Apart.{corner_each}
use Rattle.picture_text.proofs.layout.layout_of.Goals as goal

pub returns-clause-count : goal.returns-clause-count
returns-clause-count c =
    corner_each _ c.args.ranks.now c.in_ok-columns.columns.items c.in_ok-corners.corners.items c.in_ok-columns.ensures (search rules)
