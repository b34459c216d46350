use Rattle.std.proofs.Common.{refl}
use Rattle.law_evidence.specs.Worked.{outputs_after}
use Rattle.law_evidence.proofs.readings.worked_messages.Goals as goal

pub returns-clause-goes_on : goal.returns-clause-goes_on
unfolding outputs_after
returns-clause-goes_on c = refl

pub returns-clause-answered : goal.returns-clause-answered
unfolding outputs_after
returns-clause-answered c = refl

pub returns-clause-reversed : goal.returns-clause-reversed
unfolding outputs_after
returns-clause-reversed c = refl

pub returns-clause-repeated : goal.returns-clause-repeated
unfolding outputs_after
returns-clause-repeated c = refl

pub returns-clause-padded : goal.returns-clause-padded
unfolding outputs_after
returns-clause-padded c = refl

pub returns-clause-repeated_next_day : goal.returns-clause-repeated_next_day
unfolding outputs_after
returns-clause-repeated_next_day c = refl

pub returns-clause-other_next_day : goal.returns-clause-other_next_day
unfolding outputs_after
returns-clause-other_next_day c = refl

pub returns-clause-answered_next_day : goal.returns-clause-answered_next_day
unfolding outputs_after
returns-clause-answered_next_day c = refl

pub returns-clause-own_date : goal.returns-clause-own_date
unfolding outputs_after
returns-clause-own_date c = refl

pub returns-clause-late_home : goal.returns-clause-late_home
unfolding outputs_after
returns-clause-late_home c = refl
