use Rattle.std.proofs.Common.{refl}
use Rattle.iso_message.specs.Messages.{kind_at, map_at, read}
use Rattle.network_law.specs.Refusals.{refusal}
use Rattle.network_law.specs.Grants.{read_packet}
use Rattle.network_law.specs.Entries.{read_input}
use Rattle.network_law.specs.Runs.{step_refusal}
use Rattle.law_evidence.proofs.spelling.worked_faults_of_bytes.Goals as goal

pub returns-clause-empty : goal.returns-clause-empty
unfolding step_refusal refusal read_input read_packet read kind_at map_at
returns-clause-empty c = refl

pub returns-clause-cut : goal.returns-clause-cut
unfolding step_refusal refusal read_input read_packet read kind_at map_at
returns-clause-cut c = refl

pub returns-clause-packet : goal.returns-clause-packet
unfolding step_refusal refusal read_input read_packet read kind_at map_at
returns-clause-packet c = refl

pub returns-clause-packet_entered : goal.returns-clause-packet_entered
unfolding step_refusal refusal read_input read_packet read kind_at map_at
returns-clause-packet_entered c = refl

pub returns-clause-like_a_packet : goal.returns-clause-like_a_packet
unfolding step_refusal refusal read_input read_packet read kind_at map_at
returns-clause-like_a_packet c = refl

pub returns-clause-last_entry : goal.returns-clause-last_entry
unfolding step_refusal refusal read_input
returns-clause-last_entry c trace full = rw full refl

pub returns-clause-history_full : goal.returns-clause-history_full
unfolding step_refusal refusal read_input
returns-clause-history_full c trace input full = rw full refl
