use Rattle.std.proofs.Common.{ℕ, ◌<◌, get_or, arith}
use Rattle.card_digits.specs.Digits.{IsPrefix}
use Rattle.rank_rows.specs.Kept.{rows_of}
use Rattle.rank_rows.proofs.Repeated.{IsCert-repeat}
use Rattle.rank_cert.proofs.cert.Cert.repeat_front.Goals as goal

pub invariant_of-self : goal.invariant_of-self
invariant_of-self c =
    let e = c.repeat_run.ensures in
    let small : (i : ℕ) → get_or c.args.ranks.now i 0 < 65536 = λ i. omega (arith, c.type_inv.ranks i) in
    let form : IsPrefix c.args.prefix = rw c.digits.ensures.digits at c.digits.ensures.form in
    IsCert-repeat (rows_of c.self.inside.kept) (rows_of c.repeat_run.new.self) c.args.place c.args.prefix c.args.ranks.now c.repeat_run.result c.self.invariant form small e.may e.yes e.no

pub returns-clause-good : goal.returns-clause-good
returns-clause-good c =
    let e = c.repeat_run.ensures in
    let small : (i : ℕ) → get_or c.args.ranks.now i 0 < 65536 = λ i. omega (arith, c.type_inv.ranks i) in
    let form : IsPrefix c.args.prefix = rw c.digits.ensures.digits at c.digits.ensures.form in
    IsCert-repeat (rows_of c.self.inside.kept) (rows_of c.repeat_run.new.self) c.args.place c.args.prefix c.args.ranks.now c.repeat_run.result c.self.invariant form small e.may e.yes e.no
