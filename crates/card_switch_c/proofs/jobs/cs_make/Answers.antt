use Rattle.card_switch_c.proofs.Telling.{leaves}
use Rattle.card_switch_c.proofs.jobs.cs_make.Goals as goal

pub returns : goal.returns
returns c = leaves _ _ _ _ _ c.make_into.result c.make_into.ensures.ok c.make_into.ensures.err c.make_into.ensures.small c.tell.ensures.length c.tell.ensures.status
