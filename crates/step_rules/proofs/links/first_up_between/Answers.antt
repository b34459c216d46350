use Rattle.std.proofs.Common.{◌≡◌, ◌<◌, sym, length, arith}
use Rattle.network_law.specs.Tables.{joins}
use Rattle.step_rules.proofs.Between.{found_up, not_up, passing_by, between_is}
use Rattle.step_rules.proofs.links.first_up_between.Goals as goal
use Rattle.step_rules.proofs.links.first_up_between.Goals.{else-joins-via-then-joins+else-is_up, else-joins-via-else-joins}

pub returns-then-is_up : goal.returns-then-is_up
returns-then-is_up g c =
    let t = c.args.tables.now in
    let p = joins t c.args.node c.args.other in
    let u = g.S.LinkStates.up c.args.states.now in
    let lt : c.loop-place.place < length t.links = rw (← c.links-place-end.ensures.links) c.loop-place-test.true in
    rw (between_is, c.new-link.ensures) (found_up p u c.loop-place.place (length t.links) lt c.loop-place.invariant (rw (← c.new-link.ensures) (sym c.if-joins.ensures)) (rw (← c.new-link.ensures) (sym c.if-is_up.ensures)))

pub loop-place-preserved : goal.loop-place-preserved
loop-place-preserved g c =
    let t = c.args.tables.now in
    let p = joins t c.args.node c.args.other in
    let u = g.S.LinkStates.up c.args.states.now in
    elim c.else-joins.branch [
      | else-joins-via-then-joins+else-is_up w ↦ not_up p u c.loop-place.place c.loop-place.invariant (rw (← c.new-link.ensures) (sym w.if-joins.ensures)) (rw (← c.new-link.ensures) (sym w.if-is_up.ensures))
      | else-joins-via-else-joins w ↦ rw (passing_by p c.loop-place.place (rw (← c.new-link.ensures) (sym w.if-joins.ensures))) c.loop-place.invariant
    ]

pub returns : goal.returns
returns g c =
    let all : c.loop-place.place ≡ length c.args.tables.now.links = rw (← c.links-place-end.ensures.links) (omega arith) in
    rw (between_is, ← all) (sym c.loop-place.invariant)
