use Rattle.std.proofs.Common.{rules, ◌≡◌, ◌<◌, None, length, arith}
use Rattle.rows_in_force.specs.Own.{is_at}
use Rattle.rows_in_force.proofs.KnownFronts.{at_place}
use Rattle.rows_in_force.proofs.Put.{IsPut, put_next, put_step, put_end, before_is, smaller}
use Rattle.rows_in_force.proofs.own.OwnRows.put.Goals as goal

pub offset_bounds-rows-place : goal.offset_bounds-rows-place
offset_bounds-rows-place g c =
    let less = (put_next g.R.Placed.node_of g.R.Placed.prefix_of c.args.rows.now c.args.prefix.now c.args.places.now c.loop-next.places c.in-Some.place (rw c.in-Some.is at c.loop-next.invariant)).0 in
    omega arith

pub bounds-rows-place : goal.bounds-rows-place
bounds-rows-place g c =
    (put_next g.R.Placed.node_of g.R.Placed.prefix_of c.args.rows.now c.args.prefix.now c.args.places.now c.loop-next.places c.in-Some.place (rw c.in-Some.is at c.loop-next.invariant)).0

pub index-next-requires : goal.index-next-requires
index-next-requires g c =
    let less = (put_next g.R.Placed.node_of g.R.Placed.prefix_of c.args.rows.now c.args.prefix.now c.args.places.now c.loop-next.places c.in-Some.place (rw c.in-Some.is at c.loop-next.invariant)).0 in
    let many = c.requires.count in
    omega arith

pub loop-next-smaller : goal.loop-next-smaller
loop-next-smaller g c =
    let f = g.R.Placed.prefix_of in
    let rows = c.args.rows.now in
    let less : c.in-Some.place < length rows = (put_next g.R.Placed.node_of f rows c.args.prefix.now c.args.places.now c.loop-next.places c.in-Some.place (rw c.in-Some.is at c.loop-next.invariant)).0 in
    let is = at_place rows c.in-Some.place c.index-rows-place.result less c.index-rows-place.is in
    let next = before_is f rows c.args.self.now.last.entries c.args.self.now.before.items c.in-Some.place c.index-rows-place.result c.index-next.result.now c.requires less is c.index-next.ensures in
    rw c.in-Some.is (smaller (is_at f rows (f c.index-rows-place.result)) c.index-next.result.now c.in-Some.place next)

pub loop-next-preserved : goal.loop-next-preserved
loop-next-preserved g c =
    let f = g.R.Placed.prefix_of in
    let rows = c.args.rows.now in
    let h = rw c.in-Some.is at c.loop-next.invariant in
    let less : c.in-Some.place < length rows = (put_next g.R.Placed.node_of f rows c.args.prefix.now c.args.places.now c.loop-next.places c.in-Some.place h).0 in
    let is = at_place rows c.in-Some.place c.index-rows-place.result less c.index-rows-place.is in
    let next = before_is f rows c.args.self.now.last.entries c.args.self.now.before.items c.in-Some.place c.index-rows-place.result c.index-next.result.now c.requires less is c.index-next.ensures in
    rw (c.place.ensures.place, c.node.ensures)
    (put_step g.R.Placed.node_of f rows c.args.prefix.now c.args.places.now c.loop-next.places c.in-Some.place c.index-rows-place.result c.index-next.result.now h is next)

pub returns-clause-rows : goal.returns-clause-rows
returns-clause-rows g c =
    let none : c.loop-next.next ≡ None = search rules in
    put_end g.R.Placed.node_of g.R.Placed.prefix_of c.args.rows.now c.args.prefix.now c.args.places.now c.loop-next.places (rw none at c.loop-next.invariant)

pub returns-clause-within : goal.returns-clause-within
returns-clause-within g c = IsPut.within_are c.loop-next.invariant
