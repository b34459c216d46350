use Rattle.std.proofs.Common.{◌≡◌, ◌<◌, refl, sym, length, arith}
use Rattle.network_law.specs.Tables.{joins}
use Rattle.step_rules.proofs.Between.{found_one, between_is}
use Rattle.step_rules.proofs.links.are_linked.Goals as goal

pub returns-then-joins : goal.returns-then-joins
returns-then-joins c =
    let t = c.args.tables.now in
    let p = joins t c.args.node c.args.other in
    let lt : c.loop-place.place < length t.links = rw (← c.links-place-end.ensures.links) c.loop-place-test.true in
    rw between_is (found_one p c.loop-place.place (length t.links) lt (rw (← c.new.ensures) (sym c.if-joins.ensures)) c.loop-place.invariant)

pub returns : goal.returns
returns c =
    let all : c.loop-place.place ≡ length c.args.tables.now.links = rw (← c.links-place-end.ensures.links) (omega arith) in
    rw (between_is, ← all, c.loop-place.invariant) refl
