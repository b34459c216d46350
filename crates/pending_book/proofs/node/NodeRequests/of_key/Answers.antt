use Rattle.std.proofs.Common.{rules, ◌≡◌, ◌<◌, length, Some, None}
use Rattle.pending_book.specs.NodeKept.{place_of}
use Rattle.pending_book.proofs.NodePlaces.{found_none, found_some, place_within}
use Rattle.pending_book.proofs.node.NodeRequests.of_key.Goals as goal

pub returns-in_err-place : goal.returns-in_err-place
returns-in_err-place c =
    let none : place_of c.args.key c.args.self.now.rows ≡ None = search rules in
    rw (found_none c.args.key c.args.self.now.rows none) (search rules)

pub index-requires : goal.index-requires
index-requires c =
    let at : place_of c.args.key c.self.inside.rows.items ≡ Some c.in_ok-place.place = search rules in
    let w : c.in_ok-place.place < length c.self.inside.rows.items = place_within c.args.key c.self.inside.rows.items c.in_ok-place.place at in
    search rules

pub returns : goal.returns
returns c =
    let at : place_of c.args.key c.self.inside.rows.items ≡ Some c.in_ok-place.place = search rules in
    let w = found_some c.args.key c.self.inside.rows.items c.in_ok-place.place c.index.result.now at in
    rw (← c.self.view_is, w) (search rules)
