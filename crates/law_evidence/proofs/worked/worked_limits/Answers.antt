use Rattle.std.proofs.Common.{refl}
use Rattle.network_law.specs.Traces.{used}
use Rattle.law_evidence.specs.Worked.{history_after, outputs_after}
use Rattle.law_evidence.proofs.worked.worked_limits.Goals as goal

pub returns-clause-within : goal.returns-clause-within
unfolding history_after outputs_after used
returns-clause-within c = refl

pub returns-clause-above : goal.returns-clause-above
unfolding history_after outputs_after used
returns-clause-above c = refl

pub returns-clause-reversed_twice : goal.returns-clause-reversed_twice
unfolding history_after outputs_after used
returns-clause-reversed_twice c = refl

pub returns-clause-given_back : goal.returns-clause-given_back
unfolding history_after outputs_after used
returns-clause-given_back c = refl

pub returns-clause-given_back_once : goal.returns-clause-given_back_once
unfolding history_after outputs_after used
returns-clause-given_back_once c = refl

pub returns-clause-used : goal.returns-clause-used
unfolding history_after outputs_after used
returns-clause-used c = refl

pub returns-clause-used_on_another_date : goal.returns-clause-used_on_another_date
unfolding history_after outputs_after used
returns-clause-used_on_another_date c = refl

pub returns-clause-used_no_more : goal.returns-clause-used_no_more
unfolding history_after outputs_after used
returns-clause-used_no_more c = refl

pub returns-clause-new_date : goal.returns-clause-new_date
unfolding history_after outputs_after used
returns-clause-new_date c = refl

pub returns-clause-other_currency : goal.returns-clause-other_currency
unfolding history_after outputs_after used
returns-clause-other_currency c = refl

pub returns-clause-same_tick : goal.returns-clause-same_tick
unfolding history_after outputs_after used
returns-clause-same_tick c = refl
