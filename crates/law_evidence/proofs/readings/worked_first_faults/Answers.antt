use Rattle.std.proofs.Common.{refl}
use Rattle.network_law.specs.Refusals.{refusal}
use Rattle.law_evidence.proofs.readings.worked_first_faults.Goals as goal

pub returns-clause-type_first : goal.returns-clause-type_first
unfolding refusal
returns-clause-type_first c = refl

pub returns-clause-missing_first : goal.returns-clause-missing_first
unfolding refusal
returns-clause-missing_first c = refl

pub returns-clause-foreign_first : goal.returns-clause-foreign_first
unfolding refusal
returns-clause-foreign_first c = refl

pub returns-clause-repeated_reversal : goal.returns-clause-repeated_reversal
unfolding refusal
returns-clause-repeated_reversal c = refl

pub returns-clause-taken_reversal : goal.returns-clause-taken_reversal
unfolding refusal
returns-clause-taken_reversal c = refl

pub returns-clause-full_amount : goal.returns-clause-full_amount
unfolding refusal
returns-clause-full_amount c = refl

pub returns-clause-not_lent_first : goal.returns-clause-not_lent_first
unfolding refusal
returns-clause-not_lent_first c past full = refl
