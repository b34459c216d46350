use Rattle.std.proofs.Common.{refl}
use Rattle.network_law.specs.Traces.{load}
use Rattle.law_evidence.specs.Worked.{history_after}
use Rattle.law_evidence.proofs.places.worked_places.Goals as goal

pub returns-clause-pending : goal.returns-clause-pending
unfolding load history_after
returns-clause-pending c = refl

pub returns-clause-asked : goal.returns-clause-asked
unfolding load history_after
returns-clause-asked c = refl

pub returns-clause-answered : goal.returns-clause-answered
unfolding load history_after
returns-clause-answered c = refl

pub returns-clause-failed : goal.returns-clause-failed
unfolding load history_after
returns-clause-failed c = refl

pub returns-clause-failed_and_approved : goal.returns-clause-failed_and_approved
unfolding load history_after
returns-clause-failed_and_approved c = refl

pub returns-clause-stood_in : goal.returns-clause-stood_in
unfolding load history_after
returns-clause-stood_in c = refl

pub returns-clause-reversed : goal.returns-clause-reversed
unfolding load history_after
returns-clause-reversed c = refl

pub returns-clause-acknowledged : goal.returns-clause-acknowledged
unfolding load history_after
returns-clause-acknowledged c = refl

pub returns-clause-posted : goal.returns-clause-posted
unfolding load history_after
returns-clause-posted c = refl

pub returns-clause-lent : goal.returns-clause-lent
unfolding load history_after
returns-clause-lent c = refl

pub returns-clause-lent_acknowledged : goal.returns-clause-lent_acknowledged
unfolding load history_after
returns-clause-lent_acknowledged c = refl
