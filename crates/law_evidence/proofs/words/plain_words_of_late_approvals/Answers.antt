use Rattle.law_evidence.proofs.PlainLate.{late_is_such, such_is_late}
use Rattle.law_evidence.proofs.words.plain_words_of_late_approvals.Goals as goal

pub returns-clause-late : goal.returns-clause-late
returns-clause-late c = late_is_such

pub returns-clause-such : goal.returns-clause-such
returns-clause-such c = such_is_late
