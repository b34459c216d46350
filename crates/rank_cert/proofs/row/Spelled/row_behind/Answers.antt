use Rattle.rank_cert.proofs.row.Spelled.row_behind.Goals as goal

pub returns-clause-row : goal.returns-clause-row
returns-clause-row c = rw c.self.view_is (λ text named. c.in_ok-rank.ensures text c.args.node named)
