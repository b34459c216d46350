use Rattle.network_law.specs.Entries.{history, read_trace}
use Rattle.network_law.proofs.Reading.{Legible, legible}
use Rattle.network_law.proofs.Used.{within_limits}
use Rattle.network_law.proofs.every_legal_trace_is_within_limits.Goals as goal

pub returns : goal.returns
unfolding history
returns c t n trace checked bounded less l = within_limits t n (read_trace trace) bounded less (Legible.legal (legible t n checked.sound less trace l))
