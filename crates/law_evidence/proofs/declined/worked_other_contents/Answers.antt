use Rattle.std.proofs.Common.{refl}
use Rattle.law_evidence.specs.Worked.{outputs_after}
use Rattle.law_evidence.proofs.declined.worked_other_contents.Goals as goal

pub returns-clause-taken : goal.returns-clause-taken
unfolding outputs_after
returns-clause-taken c = refl

pub returns-clause-first_answered : goal.returns-clause-first_answered
unfolding outputs_after
returns-clause-first_answered c = refl

pub returns-clause-still_pending : goal.returns-clause-still_pending
unfolding outputs_after
returns-clause-still_pending c = refl

pub returns-clause-other_link : goal.returns-clause-other_link
unfolding outputs_after
returns-clause-other_link c = refl

pub returns-clause-first_link_answered : goal.returns-clause-first_link_answered
unfolding outputs_after
returns-clause-first_link_answered c = refl

pub returns-clause-reversal_of_open : goal.returns-clause-reversal_of_open
unfolding outputs_after
returns-clause-reversal_of_open c = refl

pub returns-clause-known_reversal : goal.returns-clause-known_reversal
unfolding outputs_after
returns-clause-known_reversal c = refl

pub returns-clause-known_advice : goal.returns-clause-known_advice
unfolding outputs_after
returns-clause-known_advice c = refl

pub returns-clause-answer_of_other_link : goal.returns-clause-answer_of_other_link
unfolding outputs_after
returns-clause-answer_of_other_link c = refl

pub returns-clause-answer_of_none : goal.returns-clause-answer_of_none
unfolding outputs_after
returns-clause-answer_of_none c = refl

pub returns-clause-later_94 : goal.returns-clause-later_94
unfolding outputs_after
returns-clause-later_94 c = refl
