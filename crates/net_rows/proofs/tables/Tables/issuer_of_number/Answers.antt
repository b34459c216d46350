use Rattle.std.proofs.Common.{◌∙◌, refl}
use Rattle.net_rows.proofs.Fronts.{all_kept}
use Rattle.net_rows.proofs.tables.Tables.issuer_of_number.Goals as goal

pub returns : goal.returns
returns c = rw (← c.self.view_is) (c.for_number.ensures ∙ rw (all_kept c.self.inside.issuers) refl)
