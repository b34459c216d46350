use Rattle.std.proofs.Common.{refl}
use Rattle.network_law.specs.Refusals.{refusal}
use Rattle.law_evidence.proofs.worked.worked_refusals.Goals as goal

pub returns-clause-none : goal.returns-clause-none
unfolding refusal
returns-clause-none c = refl

pub returns-clause-foreign : goal.returns-clause-foreign
unfolding refusal
returns-clause-foreign c = refl

pub returns-clause-missing : goal.returns-clause-missing
unfolding refusal
returns-clause-missing c = refl

pub returns-clause-first_missing : goal.returns-clause-first_missing
unfolding refusal
returns-clause-first_missing c = refl

pub returns-clause-no_date : goal.returns-clause-no_date
unfolding refusal
returns-clause-no_date c = refl

pub returns-clause-no_original : goal.returns-clause-no_original
unfolding refusal
returns-clause-no_original c = refl

pub returns-clause-strange_original : goal.returns-clause-strange_original
unfolding refusal
returns-clause-strange_original c = refl

pub returns-clause-answer_entered : goal.returns-clause-answer_entered
unfolding refusal
returns-clause-answer_entered c = refl

pub returns-clause-reversal_taken : goal.returns-clause-reversal_taken
unfolding refusal
returns-clause-reversal_taken c = refl

pub returns-clause-partial : goal.returns-clause-partial
unfolding refusal
returns-clause-partial c = refl

pub returns-clause-partial_above : goal.returns-clause-partial_above
unfolding refusal
returns-clause-partial_above c = refl

pub returns-clause-partial_no_number : goal.returns-clause-partial_no_number
unfolding refusal
returns-clause-partial_no_number c = refl

pub returns-clause-unknown_ask : goal.returns-clause-unknown_ask
unfolding refusal
returns-clause-unknown_ask c = refl
