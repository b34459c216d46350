use Rattle.rank_rows.specs.Kept.{rows_of}
use Rattle.rank_rows.proofs.Pairs.{IsCert-add}
use Rattle.rank_cert.proofs.cert.Cert.add_row.Goals as goal

pub invariant_of-self : goal.invariant_of-self
invariant_of-self c =
    let e = c.add.ensures in
    IsCert-add (rows_of c.self.inside.kept) (rows_of c.add.new.self) c.args.row c.add.result c.self.invariant c.requires e.added e.yes e.no e.err
