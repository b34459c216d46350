use Rattle.table_checker.proofs.Codes.{still_falls}
use Rattle.table_checker.proofs.known.Known.add.Goals as goal

pub returns-clause-falling : goal.returns-clause-falling
returns-clause-falling c = λ t before n place r h at.
    still_falls t c.args.self.now.ranks c.place.result c.code_of.result n r.links (rw c.place.ensures.place c.requires) (before n place r h at)
