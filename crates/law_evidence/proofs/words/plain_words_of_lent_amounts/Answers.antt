use Rattle.network_law.proofs.Packets.{packet_again}
use Rattle.law_evidence.proofs.StoredOrder.{due_in_stored_order}
use Rattle.law_evidence.proofs.Acked.{acked_by_packet}
use Rattle.network_law.proofs.PacketsExact.{packets_are_exact}
use Rattle.law_evidence.proofs.words.plain_words_of_lent_amounts.Goals as goal
use Rattle.network_law.proofs.PlainGrants.{grants_are_lends, taken_by_first, taken_once, repeats_add_nothing, new_adds, borrowed_is_sum, lent_is_sum, stored_grants_are_due, stored_advices_are_due}

pub returns-clause-made : goal.returns-clause-made
returns-clause-made c = grants_are_lends

pub returns-clause-taken : goal.returns-clause-taken
returns-clause-taken c = taken_by_first

pub returns-clause-borrowed : goal.returns-clause-borrowed
returns-clause-borrowed c = borrowed_is_sum

pub returns-clause-lent : goal.returns-clause-lent
returns-clause-lent c = lent_is_sum

pub returns-clause-due_grants : goal.returns-clause-due_grants
returns-clause-due_grants c = stored_grants_are_due

pub returns-clause-due_advices : goal.returns-clause-due_advices
returns-clause-due_advices c = stored_advices_are_due

pub returns-clause-bytes : goal.returns-clause-bytes
returns-clause-bytes c = packets_are_exact

pub returns-clause-read : goal.returns-clause-read
returns-clause-read c = packet_again

pub returns-clause-taken_once : goal.returns-clause-taken_once
returns-clause-taken_once c = taken_once

pub returns-clause-repeated : goal.returns-clause-repeated
returns-clause-repeated c = repeats_add_nothing

pub returns-clause-new : goal.returns-clause-new
returns-clause-new c = new_adds

pub returns-clause-due_in_order : goal.returns-clause-due_in_order
returns-clause-due_in_order c = due_in_stored_order

pub returns-clause-acked : goal.returns-clause-acked
returns-clause-acked c = acked_by_packet
