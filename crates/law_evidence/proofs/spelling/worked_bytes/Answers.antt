use Rattle.law_evidence.proofs.WorkedSteps.{request_spelled, forwarded_spelled, answered_spelled, request_read, legal_at_a, legal_at_h}
use Rattle.law_evidence.proofs.spelling.worked_bytes.Goals as goal

pub returns-clause-request : goal.returns-clause-request
returns-clause-request c = request_spelled

pub returns-clause-forwarded : goal.returns-clause-forwarded
returns-clause-forwarded c = forwarded_spelled

pub returns-clause-answered : goal.returns-clause-answered
returns-clause-answered c = answered_spelled

pub returns-clause-read : goal.returns-clause-read
returns-clause-read c = request_read

pub returns-clause-at_a : goal.returns-clause-at_a
returns-clause-at_a c = legal_at_a

pub returns-clause-at_h : goal.returns-clause-at_h
returns-clause-at_h c = legal_at_h
