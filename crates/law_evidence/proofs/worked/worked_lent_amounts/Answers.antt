use Rattle.std.proofs.Common.{refl}
use Rattle.network_law.specs.Grants.{packet_bytes, read_packet}
use Rattle.network_law.specs.Refusals.{refusal}
use Rattle.law_evidence.specs.Worked.{history_after, outputs_after}
use Rattle.law_evidence.proofs.worked.worked_lent_amounts.Goals as goal

pub returns-clause-lent : goal.returns-clause-lent
unfolding history_after outputs_after
returns-clause-lent c = refl

pub returns-clause-taken : goal.returns-clause-taken
unfolding history_after outputs_after
returns-clause-taken c = refl

pub returns-clause-taken_again : goal.returns-clause-taken_again
unfolding history_after outputs_after
returns-clause-taken_again c = refl

pub returns-clause-borrowed : goal.returns-clause-borrowed
unfolding history_after outputs_after
returns-clause-borrowed c = refl

pub returns-clause-no_more : goal.returns-clause-no_more
unfolding history_after outputs_after
returns-clause-no_more c = refl

pub returns-clause-left_to_lender : goal.returns-clause-left_to_lender
unfolding history_after outputs_after
returns-clause-left_to_lender c = refl

pub returns-clause-no_more_left : goal.returns-clause-no_more_left
unfolding history_after outputs_after
returns-clause-no_more_left c = refl

pub returns-clause-not_taken : goal.returns-clause-not_taken
unfolding history_after outputs_after
returns-clause-not_taken c = refl

pub returns-clause-all_lent : goal.returns-clause-all_lent
unfolding history_after outputs_after
returns-clause-all_lent c = refl

pub returns-clause-put_again : goal.returns-clause-put_again
unfolding history_after outputs_after
returns-clause-put_again c = refl

pub returns-clause-acknowledged : goal.returns-clause-acknowledged
unfolding history_after outputs_after
returns-clause-acknowledged c = refl

pub returns-clause-link_down : goal.returns-clause-link_down
unfolding history_after outputs_after
returns-clause-link_down c = refl

pub returns-clause-spelled : goal.returns-clause-spelled
unfolding packet_bytes
returns-clause-spelled c = refl

pub returns-clause-read : goal.returns-clause-read
unfolding read_packet
returns-clause-read c = refl

pub returns-clause-read_received : goal.returns-clause-read_received
unfolding read_packet
returns-clause-read_received c = refl

pub returns-clause-too_long : goal.returns-clause-too_long
unfolding read_packet
returns-clause-too_long c = refl

pub returns-clause-above : goal.returns-clause-above
unfolding refusal
returns-clause-above c = refl

pub returns-clause-nothing : goal.returns-clause-nothing
unfolding refusal
returns-clause-nothing c = refl

pub returns-clause-not_named : goal.returns-clause-not_named
unfolding refusal
returns-clause-not_named c = refl

pub returns-clause-not_joined : goal.returns-clause-not_joined
unfolding refusal
returns-clause-not_joined c = refl

pub returns-clause-for_another : goal.returns-clause-for_another
unfolding refusal
returns-clause-for_another c = refl

pub returns-clause-may : goal.returns-clause-may
unfolding refusal
returns-clause-may c = refl

pub returns-clause-grant_first : goal.returns-clause-grant_first
unfolding history_after outputs_after
returns-clause-grant_first c = refl

pub returns-clause-advices_first : goal.returns-clause-advices_first
unfolding history_after outputs_after
returns-clause-advices_first c = refl

pub returns-clause-own_limit : goal.returns-clause-own_limit
unfolding history_after outputs_after
returns-clause-own_limit c = refl
