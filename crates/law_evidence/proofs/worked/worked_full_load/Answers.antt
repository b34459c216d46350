use Rattle.std.proofs.Common.{refl}
use Rattle.network_law.specs.Decision.{decide}
use Rattle.network_law.specs.Refusals.{refusal}
use Rattle.law_evidence.proofs.worked.worked_full_load.Goals as goal

pub returns-clause-request : goal.returns-clause-request
unfolding decide
returns-clause-request c past (date, (full, fresh, other)) = rw (date, fresh, other, full) refl

pub returns-clause-reversal : goal.returns-clause-reversal
unfolding refusal
returns-clause-reversal c past (full, fresh, new) = rw (fresh, new, full) refl

pub returns-clause-last_place : goal.returns-clause-last_place
unfolding refusal
returns-clause-last_place c past (full, fresh, new) = rw (fresh, new, full) refl

pub returns-clause-advice : goal.returns-clause-advice
unfolding refusal
returns-clause-advice c past (full, new) = rw (new, full) refl

pub returns-clause-late_approval : goal.returns-clause-late_approval
unfolding refusal
returns-clause-late_approval c past (full, on, late, (i, count, opens)) = rw (on, late, opens, full) refl

pub returns-clause-grant : goal.returns-clause-grant
unfolding refusal
returns-clause-grant c past (full, u, b, l) = rw (u, b, l, full) refl
