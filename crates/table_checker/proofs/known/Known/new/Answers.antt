use Rattle.table_checker.proofs.Codes.{none_falling}
use Rattle.table_checker.proofs.known.Known.new.Goals as goal

pub returns : goal.returns
returns c = λ t n place r h at. absurd (none_falling 64 n place h)
