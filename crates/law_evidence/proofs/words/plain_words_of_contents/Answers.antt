use Rattle.law_evidence.proofs.PlainContents.{asked_by_asks, opened_in_order, approvals_once, advice_is_first, acked_after_storing}
use Rattle.law_evidence.proofs.words.plain_words_of_contents.Goals as goal

pub returns-clause-asked : goal.returns-clause-asked
returns-clause-asked c = asked_by_asks

pub returns-clause-opened : goal.returns-clause-opened
returns-clause-opened c = opened_in_order

pub returns-clause-approved_once : goal.returns-clause-approved_once
returns-clause-approved_once c = approvals_once

pub returns-clause-first : goal.returns-clause-first
returns-clause-first c = advice_is_first

pub returns-clause-acked : goal.returns-clause-acked
returns-clause-acked c = acked_after_storing
