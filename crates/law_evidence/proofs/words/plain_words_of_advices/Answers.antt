use Rattle.law_evidence.proofs.PlainAdvices.{has_00_by_said, approved_by_first, first_approves, known_after_input, known_after_output, advices_once, known_has_advice, advice_is_known, reversed_has_advice, advice_reverses, stored_are_advices, advices_are_stored, was_put_has_put, put_was_put, load_is_sum}
use Rattle.law_evidence.proofs.words.plain_words_of_advices.Goals as goal

pub returns-clause-has_00 : goal.returns-clause-has_00
returns-clause-has_00 c = has_00_by_said

pub returns-clause-approved : goal.returns-clause-approved
returns-clause-approved c = approved_by_first

pub returns-clause-approves : goal.returns-clause-approves
returns-clause-approves c = first_approves

pub returns-clause-after_input : goal.returns-clause-after_input
returns-clause-after_input c = known_after_input

pub returns-clause-after_output : goal.returns-clause-after_output
returns-clause-after_output c = known_after_output

pub returns-clause-once : goal.returns-clause-once
returns-clause-once c = advices_once

pub returns-clause-known : goal.returns-clause-known
returns-clause-known c = known_has_advice

pub returns-clause-knows : goal.returns-clause-knows
returns-clause-knows c = advice_is_known

pub returns-clause-reversed : goal.returns-clause-reversed
returns-clause-reversed c = reversed_has_advice

pub returns-clause-reverses : goal.returns-clause-reverses
returns-clause-reverses c = advice_reverses

pub returns-clause-stored : goal.returns-clause-stored
returns-clause-stored c = stored_are_advices

pub returns-clause-stores : goal.returns-clause-stores
returns-clause-stores c = advices_are_stored

pub returns-clause-was_put : goal.returns-clause-was_put
returns-clause-was_put c = was_put_has_put

pub returns-clause-puts : goal.returns-clause-puts
returns-clause-puts c = put_was_put

pub returns-clause-load : goal.returns-clause-load
returns-clause-load c = load_is_sum
