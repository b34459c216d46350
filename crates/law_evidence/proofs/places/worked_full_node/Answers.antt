use Rattle.std.proofs.Common.{refl}
use Rattle.network_law.specs.Decision.{decide}
use Rattle.network_law.specs.Refusals.{refusal}
use Rattle.law_evidence.proofs.places.worked_full_node.Goals as goal

pub returns-clause-two_places : goal.returns-clause-two_places
unfolding decide
returns-clause-two_places c past (date, (full, fresh, other)) up = rw (date, fresh, other, full, up) refl

pub returns-clause-no_place : goal.returns-clause-no_place
unfolding decide
returns-clause-no_place c past (date, (full, fresh, other)) = rw (date, fresh, other, full) refl

pub returns-clause-not_stood_in : goal.returns-clause-not_stood_in
unfolding decide
returns-clause-not_stood_in c past (date, (full, fresh, other)) down = rw (date, fresh, other, full) refl

pub returns-clause-not_asked : goal.returns-clause-not_asked
unfolding decide
returns-clause-not_asked c past (full, fresh, other) = rw (fresh, other, full) refl

pub returns-clause-wrong_card : goal.returns-clause-wrong_card
unfolding decide
returns-clause-wrong_card c past (date, (full, fresh, other)) = rw (date, fresh, other) refl

pub returns-clause-no_issuer : goal.returns-clause-no_issuer
unfolding decide
returns-clause-no_issuer c past (date, (full, fresh, other)) = rw (date, fresh, other) refl

pub returns-clause-repeated : goal.returns-clause-repeated
unfolding decide
returns-clause-repeated c past (full, date, (i, count, opens)) is = rw (date, opens, is) refl

pub returns-clause-other_content : goal.returns-clause-other_content
unfolding decide
returns-clause-other_content c past (full, date, (i, count, opens)) = rw (date, opens) refl

pub returns-clause-taken_reversal : goal.returns-clause-taken_reversal
unfolding refusal
returns-clause-taken_reversal c past (full, fresh, new) = rw (fresh, new, full) refl

pub returns-clause-last_place : goal.returns-clause-last_place
unfolding refusal
returns-clause-last_place c past (full, fresh, new) = rw (fresh, new, full) refl

pub returns-clause-of_pending : goal.returns-clause-of_pending
unfolding refusal
returns-clause-of_pending c past (full, (i, count, opens), none, new) = rw (opens, none, new, full) refl

pub returns-clause-of_answered : goal.returns-clause-of_answered
unfolding refusal
returns-clause-of_answered c past (full, (i, count, opens), is, new) = rw (opens, is, new, full) refl

pub returns-clause-known_reversal : goal.returns-clause-known_reversal
unfolding refusal
returns-clause-known_reversal c past (full, fresh, old) = rw (fresh, old) refl

pub returns-clause-declined_reversal : goal.returns-clause-declined_reversal
unfolding refusal
returns-clause-declined_reversal c past full = refl

pub returns-clause-at_home : goal.returns-clause-at_home
unfolding refusal
returns-clause-at_home c past (full, fresh, new) = rw (fresh, new) refl

pub returns-clause-advice_at_home : goal.returns-clause-advice_at_home
unfolding refusal
returns-clause-advice_at_home c past (full, new) = rw new refl

pub returns-clause-host : goal.returns-clause-host
unfolding refusal
returns-clause-host c past (full, asked) = rw asked refl
