use Rattle.std.proofs.Common.{◌∙◌, [], subst}
use Rattle.node_machine.specs.Lists.{Take}
use Rattle.book_index.specs.Found.{Tells, holds_at}
use Rattle.book_index.specs.declared.index.Place.{Place}
use Rattle.book_index.proofs.Holding.{holds_within}
use Rattle.standin_book.specs.Approvals.{is_of}
use Rattle.standin_book.proofs.Lessened.{nowhere_stays, one_lessens}
use Rattle.standin_book.proofs.standin.lessen_in.Goals as goal

pub lessen_at-requires-clause-place : goal.lessen_at-requires-clause-place
lessen_at-requires-clause-place c =
    let H : Place → Type 0 = λ p. Tells p (holds_at (is_of c.args.key) c.args.takes.now) in
    let t = subst H c.in-At.is c.requires.place in
    holds_within (is_of c.args.key) c.args.takes.now c.in-At.place t.0

pub returns-in-Nowhere-clause-takes : goal.returns-in-Nowhere-clause-takes
returns-in-Nowhere-clause-takes c =
    let H : Place → Type 0 = λ p. Tells p (holds_at (is_of c.args.key) c.args.takes.now) in
    nowhere_stays c.args.key c.args.actual c.args.takes.now (subst H c.in-Nowhere.is c.requires.place)

pub returns-in-At-clause-takes : goal.returns-in-At-clause-takes
returns-in-At-clause-takes c =
    let H : Place → Type 0 = λ p. Tells p (holds_at (is_of c.args.key) c.args.takes.now) in
    let t = subst H c.in-At.is c.requires.place in
    let d : Take = record { key = c.args.key; card = []; date = []; amount = 0; left = 0 } in
    c.lessen_at.ensures.takes d ∙ one_lessens c.args.key c.args.actual c.args.takes.now c.in-At.place d t.1
