use Rattle.std.proofs.Common.{refl}
use Rattle.law_evidence.specs.Worked.{outputs_after}
use Rattle.law_evidence.proofs.declined.worked_ways.Goals as goal

pub returns-clause-first_link : goal.returns-clause-first_link
unfolding outputs_after
returns-clause-first_link c = refl

pub returns-clause-second_link : goal.returns-clause-second_link
unfolding outputs_after
returns-clause-second_link c = refl

pub returns-clause-up_again : goal.returns-clause-up_again
unfolding outputs_after
returns-clause-up_again c = refl

pub returns-clause-none_up : goal.returns-clause-none_up
unfolding outputs_after
returns-clause-none_up c = refl

pub returns-clause-sent_when_up : goal.returns-clause-sent_when_up
unfolding outputs_after
returns-clause-sent_when_up c = refl

pub returns-clause-where_request_went : goal.returns-clause-where_request_went
unfolding outputs_after
returns-clause-where_request_went c = refl

pub returns-clause-where_it_is_down : goal.returns-clause-where_it_is_down
unfolding outputs_after
returns-clause-where_it_is_down c = refl

pub returns-clause-response_when_down : goal.returns-clause-response_when_down
unfolding outputs_after
returns-clause-response_when_down c = refl

pub returns-clause-request_0101 : goal.returns-clause-request_0101
unfolding outputs_after
returns-clause-request_0101 c = refl

pub returns-clause-asked_0101 : goal.returns-clause-asked_0101
unfolding outputs_after
returns-clause-asked_0101 c = refl

pub returns-clause-reversal_0401 : goal.returns-clause-reversal_0401
unfolding outputs_after
returns-clause-reversal_0401 c = refl

pub returns-clause-posted_0420 : goal.returns-clause-posted_0420
unfolding outputs_after
returns-clause-posted_0420 c = refl

pub returns-clause-host_timed_out : goal.returns-clause-host_timed_out
unfolding outputs_after
returns-clause-host_timed_out c = refl

pub returns-clause-host_after_that : goal.returns-clause-host_after_that
unfolding outputs_after
returns-clause-host_after_that c = refl
