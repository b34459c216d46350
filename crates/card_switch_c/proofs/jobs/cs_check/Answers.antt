use Rattle.card_switch_c.proofs.Telling.{leaves}
use Rattle.card_switch_c.proofs.jobs.cs_check.Goals as goal

pub returns : goal.returns
returns c = leaves _ _ _ _ _ c.check_into.result c.check_into.ensures.ok c.check_into.ensures.err c.check_into.ensures.small c.tell.ensures.length c.tell.ensures.status
