use Rattle.std.proofs.Common.{length, sym, ◌∙◌}
use Rattle.table_checker.proofs.NoDays.{none_named, empty}
use Rattle.table_checker.proofs.class.At.by_day.Goals as goal

pub returns-then-is_empty-clause-not_named : goal.returns-then-is_empty-clause-not_named
returns-then-is_empty-clause-not_named c = c.no_day.ensures.not_named ∙ sym (none_named c.args.self.now.tables.now c.args.self.now.cert.now c.args.self.now.class c.args.issuer.now (length c.args.self.now.tables.now.nodes) (sym c.stand_ins.ensures ∙ empty c.stand_ins.result.now (sym c.is_empty.ensures ∙ c.if-is_empty.true)))
