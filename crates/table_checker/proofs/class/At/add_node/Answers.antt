use Rattle.std.proofs.Common.{rules, ◌≡◌, Some, slice_get, option_and_then}
use Rattle.net_rows.specs.Network.{route}
use Rattle.table_checker.proofs.Codes.{nothing_more, kept_no_rank, kept_not_less}
use Rattle.table_checker.proofs.class.At.add_node.Goals as goal

pub returns-then-has_falling-clause-no_rank : goal.returns-then-has_falling-clause-no_rank
returns-then-has_falling-clause-no_rank c =
    let falling : slice_get c.args.known.now.falling c.args.node ≡ Some (Some c.in-Some.place) = search rules in
    let row : option_and_then (slice_get c.args.self.now.tables.now.routes) (Some c.in-Some.place) ≡ route c.args.self.now.tables.now c.args.node c.args.self.now.class = search rules in
    nothing_more _ _ (kept_no_rank c.args.self.now c.args.known.now c.requires.known c.args.node c.in-Some.place falling c.args.issuer.now.home row)

pub returns-then-has_falling-clause-not_less : goal.returns-then-has_falling-clause-not_less
returns-then-has_falling-clause-not_less c =
    let falling : slice_get c.args.known.now.falling c.args.node ≡ Some (Some c.in-Some.place) = search rules in
    let row : option_and_then (slice_get c.args.self.now.tables.now.routes) (Some c.in-Some.place) ≡ route c.args.self.now.tables.now c.args.node c.args.self.now.class = search rules in
    nothing_more _ _ (kept_not_less c.args.self.now c.args.known.now c.requires.known c.args.node c.in-Some.place falling c.args.issuer.now.home row)
