use Rattle.std.proofs.Common.{◌≡◌, ap}
use Rattle.node_books.specs.Values.{Roomy}
use Rattle.node_books.proofs.Loads.{load_at}
use Rattle.node_books.proofs.books.Books.load.Goals as goal

pub returns : goal.returns
returns c t n = rw (c.len.ensures, c.open_count.ensures) (load_at t n c.args.self.now.lists c.self.inside.advices.store c.self.inside.pending.rows c.rows.ensures.unique (ap (λ (v : Roomy). v.lists.store) (Rattle.std.proofs.Common.sym c.self.view_is)) (ap (λ (v : Roomy). v.lists.rows) (Rattle.std.proofs.Common.sym c.self.view_is)))
