use Rattle.iso_message.proofs.Good.{is_message}
use Rattle.iso_message.proofs.laws.spelled_is_message.Goals as goal

pub returns : goal.returns
returns c = is_message
