use Rattle.iso_message.proofs.Canonical.{spells}
use Rattle.iso_message.proofs.laws.canonical.Goals as goal

pub returns : goal.returns
returns c = spells
