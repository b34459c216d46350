use Rattle.card_switch_c.proofs.Telling.{leaves}
use Rattle.card_switch_c.proofs.jobs.cs_replay.Goals as goal

pub returns : goal.returns
returns c = leaves _ _ _ _ _ c.replay_into.result c.replay_into.ensures.ok c.replay_into.ensures.err c.replay_into.ensures.small c.tell.ensures.length c.tell.ensures.status
