use Rattle.std.proofs.Common.{◌≡◌, true}
use Rattle.rank_rows.specs.Marks.{place_of, is_marked}
use Rattle.rank_rows.proofs.Marked.{mark_more}
use Rattle.rank_rows.proofs.runs.marks_of.Goals as goal

pub loop-row-preserved : goal.loop-row-preserved
loop-row-preserved c =
    let is : is_marked c.mark.new.self (place_of c.row-item.result.node) ≡ true = cc in
    mark_more c.loop-row.marks c.mark.new.self c.args.rows.now c.loop-row.row-index c.row-item.result c.loop-row-test.true c.row-item.is c.mark.ensures.others is c.loop-row.invariant
