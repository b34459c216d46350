use Rattle.iso_message.proofs.ReadingLaws.{unique}
use Rattle.iso_message.proofs.laws.one_message.Goals as goal

pub returns : goal.returns
returns c = unique
