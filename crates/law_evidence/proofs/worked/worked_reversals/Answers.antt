use Rattle.std.proofs.Common.{refl}
use Rattle.law_evidence.specs.Worked.{outputs_after}
use Rattle.law_evidence.proofs.worked.worked_reversals.Goals as goal

pub returns-clause-link_failed : goal.returns-clause-link_failed
unfolding outputs_after
returns-clause-link_failed c = refl

pub returns-clause-timed_out : goal.returns-clause-timed_out
unfolding outputs_after
returns-clause-timed_out c = refl

pub returns-clause-sent_again : goal.returns-clause-sent_again
unfolding outputs_after
returns-clause-sent_again c = refl

pub returns-clause-not_sooner : goal.returns-clause-not_sooner
unfolding outputs_after
returns-clause-not_sooner c = refl

pub returns-clause-late_approval : goal.returns-clause-late_approval
unfolding outputs_after
returns-clause-late_approval c = refl

pub returns-clause-reversed_before : goal.returns-clause-reversed_before
unfolding outputs_after
returns-clause-reversed_before c = refl

pub returns-clause-acknowledged : goal.returns-clause-acknowledged
unfolding outputs_after
returns-clause-acknowledged c = refl

pub returns-clause-reversed_while_pending : goal.returns-clause-reversed_while_pending
unfolding outputs_after
returns-clause-reversed_while_pending c = refl

pub returns-clause-taken_after_reversal : goal.returns-clause-taken_after_reversal
unfolding outputs_after
returns-clause-taken_after_reversal c = refl

pub returns-clause-posted : goal.returns-clause-posted
unfolding outputs_after
returns-clause-posted c = refl

pub returns-clause-posted_once : goal.returns-clause-posted_once
unfolding outputs_after
returns-clause-posted_once c = refl

pub returns-clause-late_host : goal.returns-clause-late_host
unfolding outputs_after
returns-clause-late_host c = refl

pub returns-clause-other_content : goal.returns-clause-other_content
unfolding outputs_after
returns-clause-other_content c = refl
