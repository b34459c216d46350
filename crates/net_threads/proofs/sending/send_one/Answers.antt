use Rattle.link_rings.proofs.Parts.{sends_same}
use Rattle.net_threads.proofs.sending.send_one.Goals as goal

pub returns-in_default-share : goal.returns-in_default-share
returns-in_default-share c = sends_same _ _

pub returns-in_default : goal.returns-in_default
returns-in_default c = sends_same _ _
