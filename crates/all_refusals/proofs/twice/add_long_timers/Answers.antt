use Rattle.std.proofs.Common.{rules, ◌≡◌, refl, ap}
use Rattle.all_refusals.specs.Rows.{LinkAt}
use Rattle.all_refusals.specs.Found.{of_row, too_long}
use Rattle.all_refusals.proofs.Adding.{same_added}
use Rattle.all_refusals.proofs.Repeats.{long_next, found_next}
use Rattle.all_refusals.proofs.twice.add_long_timers.Goals as goal

pub loop-i-preserved : goal.loop-i-preserved
loop-i-preserved c =
    let t = c.args.tables.now in
    let row = LinkAt c.loop-i.i in
    let is : c.too_long-refusal.result ≡ too_long c.index-links-i.result c.loop-i.i = search rules in
    let adds = same_added t _ _ _ _ (c.in_ok-add.ensures t row refl) (ap (of_row row) is) in
    found_next t c.loop-i.found.items c.add.new.found.items _ _ _ _ adds (long_next c.links-links.result.now c.loop-i.i c.index-links-i.result c.loop-i-test.true c.index-links-i.is) c.loop-i.invariant
