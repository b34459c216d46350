use Rattle.std.proofs.Common.{subst, sym}
use Rattle.book_index.specs.Found.{Tells, holds_at}
use Rattle.book_index.specs.declared.index.Place.{Place}
use Rattle.book_index.proofs.Holding.{none_any, one_any}
use Rattle.standin_book.specs.Approvals.{is_of}
use Rattle.standin_book.proofs.standin.any_is_of.Goals as goal

pub returns-in-Nowhere : goal.returns-in-Nowhere
returns-in-Nowhere c =
    let H : Place → Type 0 = λ p. Tells p (holds_at (is_of c.args.key) c.args.takes.now) in
    sym (none_any (is_of c.args.key) c.args.takes.now (subst H c.in-Nowhere.is c.requires))

pub returns-in-At : goal.returns-in-At
returns-in-At c =
    let H : Place → Type 0 = λ p. Tells p (holds_at (is_of c.args.key) c.args.takes.now) in
    let t = subst H c.in-At.is c.requires in
    sym (one_any (is_of c.args.key) c.args.takes.now c.in-At.field-0 t.0)
