use Rattle.std.proofs.Common.{refl}
use Rattle.network_law.specs.Traces.{load, used}
use Rattle.iso_message.specs.Finding.{find_element}
use Rattle.message_keys.specs.Keys.{identity_of}
use Rattle.network_law.specs.Claims.{post_count}
use Rattle.network_law.specs.Entries.{read_history}
use Rattle.law_evidence.proofs.LateRun.{late_is_run}
use Rattle.law_evidence.proofs.worked.worked_late_run.Goals as goal

pub returns-clause-run : goal.returns-clause-run
returns-clause-run c = late_is_run

pub returns-clause-reversal_posted : goal.returns-clause-reversal_posted
unfolding post_count identity_of find_element read_history
returns-clause-reversal_posted c = refl

pub returns-clause-advice_posted : goal.returns-clause-advice_posted
unfolding post_count identity_of find_element read_history
returns-clause-advice_posted c = refl

pub returns-clause-places_at_a : goal.returns-clause-places_at_a
unfolding load read_history
returns-clause-places_at_a c = refl

pub returns-clause-places_at_b : goal.returns-clause-places_at_b
unfolding load read_history
returns-clause-places_at_b c = refl

pub returns-clause-exposure : goal.returns-clause-exposure
unfolding used read_history
returns-clause-exposure c = refl
