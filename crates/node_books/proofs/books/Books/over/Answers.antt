use Rattle.std.proofs.Common.{rules, ◌≡◌}
use Rattle.node_books.specs.Values.{waits_in}
use Rattle.node_books.proofs.books.Books.over.Goals as goal

pub returns-then-are_waits_in : goal.returns-then-are_waits_in
returns-then-are_waits_in c =
    let same : c.self.inside.pending.waits ≡ waits_in c.args.links.now c.args.host = search rules in
    rw (← same, ← c.self.view_is) (search rules)
