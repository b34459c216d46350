use Rattle.iso_message.proofs.MessageLemmas.{few_good}
use Rattle.iso_message.proofs.elements.append.Goals as goal

pub at-requires-clause-len : goal.at-requires-clause-len
at-requires-clause-len c = few_good c.args.number c.args.content.now c.requires.good
