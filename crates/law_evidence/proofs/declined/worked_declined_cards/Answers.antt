use Rattle.std.proofs.Common.{refl}
use Rattle.network_law.specs.Traces.{load}
use Rattle.law_evidence.specs.Worked.{history_after, outputs_after}
use Rattle.law_evidence.proofs.declined.worked_declined_cards.Goals as goal

pub returns-clause-request_again : goal.returns-clause-request_again
unfolding outputs_after
returns-clause-request_again c = refl

pub returns-clause-request_taken : goal.returns-clause-request_taken
unfolding outputs_after
returns-clause-request_taken c = refl

pub returns-clause-request_unissued : goal.returns-clause-request_unissued
unfolding outputs_after
returns-clause-request_unissued c = refl

pub returns-clause-reversal_entered : goal.returns-clause-reversal_entered
unfolding outputs_after
returns-clause-reversal_entered c = refl

pub returns-clause-reversal_unissued : goal.returns-clause-reversal_unissued
unfolding outputs_after
returns-clause-reversal_unissued c = refl

pub returns-clause-reversal_again : goal.returns-clause-reversal_again
unfolding outputs_after
returns-clause-reversal_again c = refl

pub returns-clause-not_stored : goal.returns-clause-not_stored
unfolding load history_after
returns-clause-not_stored c = refl

pub returns-clause-not_sent_again : goal.returns-clause-not_sent_again
unfolding outputs_after
returns-clause-not_sent_again c = refl

pub returns-clause-reversal_taken : goal.returns-clause-reversal_taken
unfolding outputs_after
returns-clause-reversal_taken c = refl

pub returns-clause-reversal_taken_unissued : goal.returns-clause-reversal_taken_unissued
unfolding outputs_after
returns-clause-reversal_taken_unissued c = refl

pub returns-clause-advice_taken : goal.returns-clause-advice_taken
unfolding outputs_after
returns-clause-advice_taken c = refl

pub returns-clause-advice_taken_unissued : goal.returns-clause-advice_taken_unissued
unfolding outputs_after
returns-clause-advice_taken_unissued c = refl

pub returns-clause-card_before_issuer : goal.returns-clause-card_before_issuer
unfolding outputs_after
returns-clause-card_before_issuer c = refl

pub returns-clause-reversed_before_card : goal.returns-clause-reversed_before_card
unfolding outputs_after
returns-clause-reversed_before_card c = refl
