use Rattle.std.proofs.Common.{◌≡◌, arith}
use Rattle.std.proofs.lemmas.Grind.{common_steps}
use Rattle.rank_cert.specs.Writing.{text_of}
use Rattle.rank_cert.proofs.Again.{text_again}
use Rattle.rank_cert.proofs.write.write_cert.Goals as goal

pub returns-clause-read_again : goal.returns-clause-read_again
returns-clause-read_again c =
    let text : c.extend_from_slice-2.new.self.items ≡ text_of c.args.cert.now = grind (arith, common_steps) in
    rw text (text_again c.args.cert.now c.rows.ensures.good)
