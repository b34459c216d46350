use Rattle.network_law.specs.Entries.{history}
use Rattle.network_law.proofs.Reading.{in_messages, read_run}
use Rattle.network_law.proofs.Exposure.{borrowed_was_lent, one_content}
use Rattle.network_law.proofs.no_more_is_borrowed_than_was_lent.Goals as goal

pub returns-clause-sums : goal.returns-clause-sums
unfolding history
returns-clause-sums c t traces checked run = borrowed_was_lent t (in_messages traces) (read_run t traces checked run) checked

pub returns-clause-one_content : goal.returns-clause-one_content
unfolding history
returns-clause-one_content c t traces checked run = one_content t (in_messages traces) (read_run t traces checked run) checked
