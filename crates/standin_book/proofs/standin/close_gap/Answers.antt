use Rattle.std.proofs.Common.{◌∙◌, ◌≡◌, ap, arith, length}
use Rattle.node_machine.specs.Lists.{Take}
use Rattle.standin_book.proofs.Removed.{gap_moves, gap_closed}
use Rattle.standin_book.proofs.standin.close_gap.Goals as goal

pub loop-i-preserved : goal.loop-i-preserved
loop-i-preserved c =
    let d = c.index-takes-i.result in
    record {
      places = gap_moves c.args.takes.now c.loop-i.i d c.key.result c.loop-i.places.places.entries c.move_place.new.places.places.entries c.loop-i-test.true (c.key.ensures ∙ ap (λ (a : Take). a.key) c.index-takes-i.is) c.move_place.ensures.found c.loop-i.invariant.places;
      room = c.move_place.ensures.room ∙ c.loop-i.invariant.room;
    }

pub returns-clause-places : goal.returns-clause-places
returns-clause-places c =
    let e : c.loop-i.i ≡ length c.args.takes.now = omega arith in
    gap_closed c.args.takes.now c.loop-i.i c.loop-i.places.places.entries e c.loop-i.invariant.places
