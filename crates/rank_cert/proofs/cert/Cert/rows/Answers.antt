use Rattle.rank_rows.proofs.Pairs.{each_row}
use Rattle.rank_cert.proofs.cert.Cert.rows.Goals as goal

pub returns-clause-each : goal.returns-clause-each
returns-clause-each c = rw (← c.self.view_is) (each_row _ _ c.self.invariant)
