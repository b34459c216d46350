use Rattle.law_evidence.proofs.words.plain_words.Goals as goal
use Rattle.network_law.proofs.Plain.{asked_by_number, counts_asks, counts_puts, up_by_last, dated_by_last, opened_by_first, opened_once, each_of_its_key, fail_in_opening_order, answered_by_first, forwarded_by_first, counts_ticks, used_is_sum, leaves_least, leaves_one, leaves_no_more, leaves_all, late_is_reversed}

pub returns-clause-opened_by_first : goal.returns-clause-opened_by_first
returns-clause-opened_by_first c = opened_by_first

pub returns-clause-opened_once : goal.returns-clause-opened_once
returns-clause-opened_once c = opened_once

pub returns-clause-of_its_key : goal.returns-clause-of_its_key
returns-clause-of_its_key c = each_of_its_key

pub returns-clause-fail_in_order : goal.returns-clause-fail_in_order
returns-clause-fail_in_order c = fail_in_opening_order

pub returns-clause-answered_by_first : goal.returns-clause-answered_by_first
returns-clause-answered_by_first c = answered_by_first

pub returns-clause-forwarded_by_first : goal.returns-clause-forwarded_by_first
returns-clause-forwarded_by_first c = forwarded_by_first

pub returns-clause-count : goal.returns-clause-count
returns-clause-count c = counts_ticks

pub returns-clause-used : goal.returns-clause-used
returns-clause-used c = used_is_sum

pub returns-clause-left_least : goal.returns-clause-left_least
returns-clause-left_least c = leaves_least

pub returns-clause-left_one : goal.returns-clause-left_one
returns-clause-left_one c = leaves_one

pub returns-clause-left_no_more : goal.returns-clause-left_no_more
returns-clause-left_no_more c = leaves_no_more

pub returns-clause-left_all : goal.returns-clause-left_all
returns-clause-left_all c = leaves_all

pub returns-clause-late : goal.returns-clause-late
returns-clause-late c = late_is_reversed

pub returns-clause-asked_by_number : goal.returns-clause-asked_by_number
returns-clause-asked_by_number c = asked_by_number

pub returns-clause-asks : goal.returns-clause-asks
returns-clause-asks c = counts_asks

pub returns-clause-serials : goal.returns-clause-serials
returns-clause-serials c = counts_puts

pub returns-clause-links : goal.returns-clause-links
returns-clause-links c = up_by_last

pub returns-clause-dates : goal.returns-clause-dates
returns-clause-dates c = dated_by_last
