use Rattle.std.proofs.Common.{◌≡◌, true, false}
use Rattle.rank_rows.specs.Marks.{place_of, is_marked}
use Rattle.rank_rows.proofs.Marked.{unmarked_none, push_marked}
use Rattle.rank_rows.proofs.GreatestName.{push_of}
use Rattle.rank_rows.proofs.runs.add_to_run.Goals as goal

pub is_known-requires-clause-marked : goal.is_known-requires-clause-marked
is_known-requires-clause-marked c = λ is.
    let unmarked : is_marked c.args.marks.now (place_of c.args.row.node) ≡ false = cc in
    rw (c.rows_from-run.ensures, c.deref.ensures.value) (unmarked_none c.args.marks.now _ c.args.row.node c.requires.marked unmarked)

pub returns-clause-marked : goal.returns-clause-marked
returns-clause-marked c =
    let is : is_marked c.mark.new.self (place_of c.args.row.node) ≡ true = cc in
    rw (c.push_reserved.ensures.items, c.in_ok-reserve.ensures.items) (push_marked c.args.marks.now c.mark.new.self c.args.rows.now.items c.args.begin c.args.row c.mark.ensures.others is c.requires.within c.requires.marked)

pub is_known-requires-clause-greatest : goal.is_known-requires-clause-greatest
is_known-requires-clause-greatest c = rw (c.rows_from-run.ensures, c.deref.ensures.value) c.requires.greatest

pub returns-clause-greatest : goal.returns-clause-greatest
returns-clause-greatest c =
    let is = rw (c.rows_from-run.ensures, c.deref.ensures.value) at c.is_known.ensures.greatest in
    rw (c.push_reserved.ensures.items, c.in_ok-reserve.ensures.items) (push_of c.is_known.new.greatest c.args.rows.now.items c.args.begin c.args.row c.requires.within is)
