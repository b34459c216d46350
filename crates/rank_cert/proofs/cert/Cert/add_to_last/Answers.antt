use Rattle.rank_rows.specs.Kept.{rows_of}
use Rattle.rank_rows.proofs.Pairs.{IsCert-add}
use Rattle.rank_cert.proofs.cert.Cert.add_to_last.Goals as goal

pub invariant_of-self : goal.invariant_of-self
invariant_of-self c =
    let e = c.add_to_last.ensures in
    IsCert-add (rows_of c.self.inside.kept) (rows_of c.add_to_last.new.self) c.args.row c.add_to_last.result c.self.invariant c.requires.good e.added e.yes e.no e.err
