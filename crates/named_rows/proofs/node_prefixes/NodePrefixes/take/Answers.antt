use Rattle.std.proofs.Common.{◌∙◌, sym}
use Rattle.std.proofs.lemmas.Bool.{not-false}
use Rattle.named_rows.proofs.Again.{insert_again}
use Rattle.named_rows.proofs.node_prefixes.NodePrefixes.take.Goals as goal

pub returns-in-Ok-clause-stays : goal.returns-in-Ok-clause-stays
returns-in-Ok-clause-stays c other = c.in-Ok.ensures.set ∙ insert_again c.args.self.now c.args.node c.args.prefix c.requires (not-false _ (sym c.in-Ok.ensures.new ∙ other))
