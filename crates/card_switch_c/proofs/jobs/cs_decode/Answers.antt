use Rattle.card_switch_c.proofs.Telling.{leaves}
use Rattle.card_switch_c.proofs.jobs.cs_decode.Goals as goal

pub returns : goal.returns
returns c = leaves _ _ _ _ _ c.decode_into.result c.decode_into.ensures.ok c.decode_into.ensures.err c.decode_into.ensures.small c.tell.ensures.length c.tell.ensures.status
