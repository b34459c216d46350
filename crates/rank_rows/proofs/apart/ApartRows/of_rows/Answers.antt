use Rattle.rank_rows.proofs.Pairs.{moved}
use Rattle.rank_rows.proofs.apart.ApartRows.of_rows.Goals as goal

pub loop-row-preserved : goal.loop-row-preserved
loop-row-preserved c =
    let both = moved c.loop-row.apart c.add.new.self c.args.rows.now c.loop-row.row-index c.row-item.result c.add.result c.loop-row-test.true c.row-item.is c.loop-row.invariant.whole c.loop-row.invariant.rest c.add.ensures.added c.add.ensures.yes _ c.in_ok-add.was in
    record { whole = both.0; rest = both.1 }
