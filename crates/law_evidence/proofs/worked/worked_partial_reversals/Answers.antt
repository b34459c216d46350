use Rattle.std.proofs.Common.{refl}
use Rattle.network_law.specs.Traces.{used}
use Rattle.law_evidence.specs.Worked.{history_after, outputs_after}
use Rattle.law_evidence.proofs.worked.worked_partial_reversals.Goals as goal

pub returns-clause-accepted : goal.returns-clause-accepted
unfolding history_after outputs_after used
returns-clause-accepted c = refl

pub returns-clause-rest_freed : goal.returns-clause-rest_freed
unfolding history_after outputs_after used
returns-clause-rest_freed c = refl

pub returns-clause-no_more_freed : goal.returns-clause-no_more_freed
unfolding history_after outputs_after used
returns-clause-no_more_freed c = refl

pub returns-clause-again : goal.returns-clause-again
unfolding history_after outputs_after used
returns-clause-again c = refl

pub returns-clause-freed_once : goal.returns-clause-freed_once
unfolding history_after outputs_after used
returns-clause-freed_once c = refl

pub returns-clause-used : goal.returns-clause-used
unfolding history_after outputs_after used
returns-clause-used c = refl

pub returns-clause-approved : goal.returns-clause-approved
unfolding history_after outputs_after used
returns-clause-approved c = refl
