use Rattle.std.proofs.Common.{refl}
use Rattle.std.proofs.lemmas.Bool.{lt-ltb}
use Rattle.table_checker.proofs.class.At.over_ceiling.Goals as goal

pub returns-then-total-ceiling : goal.returns-then-total-ceiling
returns-then-total-ceiling c = rw (← c.requires, lt-ltb c.args.ceiling c.args.total c.if-total-ceiling.true) refl
