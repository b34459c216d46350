use Rattle.std.proofs.Common.{sym, length}
use Rattle.table_checker.proofs.NoDays.{no_days}
use Rattle.table_checker.proofs.class.At.no_day.Goals as goal

pub over_ceiling-requires : goal.over_ceiling-requires
over_ceiling-requires c = sym (no_days c.args.self.now.tables.now c.args.self.now.class (length c.args.self.now.tables.now.nodes) c.requires)
