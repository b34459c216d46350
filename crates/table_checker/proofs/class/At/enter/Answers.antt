use Rattle.table_checker.proofs.Codes.{unknown_at}
use Rattle.table_checker.proofs.class.At.enter.Goals as goal

pub returns-in-None : goal.returns-in-None
returns-in-None c = record {
  ranks = rw c.enter-in-None.ensures.ranks (λ n code h. unknown_at _ n code h);
  falling = c.enter-in-None.ensures.falling c.args.self.now.tables.now c.requires;
}
