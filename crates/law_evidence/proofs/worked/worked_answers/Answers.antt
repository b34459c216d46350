use Rattle.std.proofs.Common.{refl}
use Rattle.law_evidence.specs.Worked.{outputs_after}
use Rattle.law_evidence.proofs.worked.worked_answers.Goals as goal

pub returns-clause-forwarded : goal.returns-clause-forwarded
unfolding outputs_after
returns-clause-forwarded c = refl

pub returns-clause-asked : goal.returns-clause-asked
unfolding outputs_after
returns-clause-asked c = refl

pub returns-clause-approved : goal.returns-clause-approved
unfolding outputs_after
returns-clause-approved c = refl

pub returns-clause-answered : goal.returns-clause-answered
unfolding outputs_after
returns-clause-answered c = refl

pub returns-clause-repeated : goal.returns-clause-repeated
unfolding outputs_after
returns-clause-repeated c = refl

pub returns-clause-other_content : goal.returns-clause-other_content
unfolding outputs_after
returns-clause-other_content c = refl

pub returns-clause-answered_again : goal.returns-clause-answered_again
unfolding outputs_after
returns-clause-answered_again c = refl

pub returns-clause-bad_card : goal.returns-clause-bad_card
unfolding outputs_after
returns-clause-bad_card c = refl

pub returns-clause-no_issuer : goal.returns-clause-no_issuer
unfolding outputs_after
returns-clause-no_issuer c = refl

pub returns-clause-link_says_94 : goal.returns-clause-link_says_94
unfolding outputs_after
returns-clause-link_says_94 c = refl

pub returns-clause-host_says_94 : goal.returns-clause-host_says_94
unfolding outputs_after
returns-clause-host_says_94 c = refl
