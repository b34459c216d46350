use Rattle.std.proofs.Common.{refl}
use Rattle.network_law.specs.Refusals.{refusal}
use Rattle.network_law.specs.Traces.{load}
use Rattle.law_evidence.specs.Worked.{history_after, outputs_after}
use Rattle.law_evidence.proofs.readings.worked_grants.Goals as goal

pub returns-clause-second : goal.returns-clause-second
unfolding outputs_after
returns-clause-second c = refl

pub returns-clause-put_again : goal.returns-clause-put_again
unfolding outputs_after
returns-clause-put_again c = refl

pub returns-clause-first_acknowledged : goal.returns-clause-first_acknowledged
unfolding outputs_after
returns-clause-first_acknowledged c = refl

pub returns-clause-never_lent : goal.returns-clause-never_lent
unfolding outputs_after
returns-clause-never_lent c = refl

pub returns-clause-link_down : goal.returns-clause-link_down
unfolding outputs_after
returns-clause-link_down c = refl

pub returns-clause-to_borrower : goal.returns-clause-to_borrower
unfolding refusal
returns-clause-to_borrower c = refl

pub returns-clause-at_home : goal.returns-clause-at_home
unfolding load history_after
returns-clause-at_home c = refl

pub returns-clause-no_check_digit : goal.returns-clause-no_check_digit
unfolding refusal
returns-clause-no_check_digit c = refl
