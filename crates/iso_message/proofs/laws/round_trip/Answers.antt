use Rattle.iso_message.specs.Spelling.{spelling}
use Rattle.iso_message.proofs.Canonical.{spells}
use Rattle.iso_message.proofs.ReadingLaws.{read_again}
use Rattle.iso_message.proofs.laws.round_trip.Goals as goal

pub returns : goal.returns
returns c m h = read_again (spelling m) m (spells m h)
