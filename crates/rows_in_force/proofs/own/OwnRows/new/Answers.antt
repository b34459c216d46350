use Rattle.rows_in_force.proofs.KnownFronts.{at_place}
use Rattle.rows_in_force.proofs.Made.{chained_run, chained_same}
use Rattle.rows_in_force.proofs.own.OwnRows.new.Goals as goal

pub loop-place-preserved : goal.loop-place-preserved
loop-place-preserved g c =
    let f = g.R.Placed.prefix_of in
    let rows = c.args.rows.now in
    let n = c.loop-place.place in
    let e = c.run_end-end.ensures in
    let is = at_place rows n c.index-rows-place.result c.loop-place-test.true c.index-rows-place.is in
    let some = rw c.digits.ensures.digits at c.digits.ensures.form.not_short in
    let h = chained_same f rows n c.loop-place.last.entries c.reserve.new.self.entries c.loop-place.before.items c.reserve.ensures.entries c.loop-place.invariant.chained in
    let run = chained_run f rows n c.run_end-end.result c.index-rows-place.result c.prefix-prefix.result c.reserve.new.self.entries c.insert-earlier.new.self.entries c.loop-place.before.items
    h e.from e.within is c.prefix-prefix.ensures some e.same c.insert-earlier.ensures.updates in
    record { chained = rw (c.in_ok-push_run.ensures, c.insert-earlier.ensures.old) run; within = e.within }
