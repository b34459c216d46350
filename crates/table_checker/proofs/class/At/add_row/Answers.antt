use Rattle.std.proofs.Common.{rules, ◌≡◌, Some, true, slice_get}
use Rattle.table_checker.specs.Known.{falls_by}
use Rattle.table_checker.proofs.Codes.{nothing_more, row_none, falling_no_rank, falling_not_less, set_falling}
use Rattle.table_checker.proofs.class.At.add_row.Goals as goal

pub returns-then-falls_by_known-clause-no_rank : goal.returns-then-falls_by_known-clause-no_rank
returns-then-falls_by_known-clause-no_rank c =
    let at : slice_get c.args.self.now.tables.now.routes c.args.place ≡ Some c.in-Some.row.now = search rules in
    let falls : falls_by c.args.self.now.tables.now c.args.known.now.ranks c.args.node c.in-Some.row.now.links ≡ true = search rules in
    nothing_more _ _ (row_none _ _ c.in-Some.row.now at (falling_no_rank c.args.self.now c.args.known.now.ranks c.requires.known.ranks c.args.node c.in-Some.row.now.links falls))

pub returns-then-falls_by_known-clause-not_less : goal.returns-then-falls_by_known-clause-not_less
returns-then-falls_by_known-clause-not_less c =
    let at : slice_get c.args.self.now.tables.now.routes c.args.place ≡ Some c.in-Some.row.now = search rules in
    let falls : falls_by c.args.self.now.tables.now c.args.known.now.ranks c.args.node c.in-Some.row.now.links ≡ true = search rules in
    nothing_more _ _ (row_none _ _ c.in-Some.row.now at (falling_not_less c.args.self.now c.args.known.now.ranks c.requires.known.ranks c.args.node c.in-Some.row.now.links falls))

pub returns-then-falls_by_known-clause-known : goal.returns-then-falls_by_known-clause-known
returns-then-falls_by_known-clause-known c =
    let at : slice_get c.args.self.now.tables.now.routes c.args.place ≡ Some c.in-Some.row.now = search rules in
    let falls : falls_by c.args.self.now.tables.now c.args.known.now.ranks c.args.node c.in-Some.row.now.links ≡ true = search rules in
    record {
      ranks = c.requires.known.ranks;
      falling = rw c.place.ensures.place (set_falling c.args.self.now.tables.now c.args.known.now.ranks c.args.known.now.falling c.args.node c.args.place c.in-Some.row.now c.requires.known.falling at falls);
    }

pub returns-clause-no_rank : goal.returns-clause-no_rank
returns-clause-no_rank c =
    let at : slice_get c.args.self.now.tables.now.routes c.args.place ≡ Some c.in-Some.row.now = search rules in
    rw (at, ← c.as_slice-links.ensures) c.add_route.ensures.no_rank

pub returns-clause-not_less : goal.returns-clause-not_less
returns-clause-not_less c =
    let at : slice_get c.args.self.now.tables.now.routes c.args.place ≡ Some c.in-Some.row.now = search rules in
    rw (at, ← c.as_slice-links.ensures) c.add_route.ensures.not_less
