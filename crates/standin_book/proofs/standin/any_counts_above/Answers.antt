use Rattle.std.proofs.Common.{◌∙◌, [], subst, sym}
use Rattle.node_machine.specs.Lists.{Take}
use Rattle.book_index.specs.Found.{Tells, holds_at}
use Rattle.book_index.specs.declared.index.Place.{Place}
use Rattle.book_index.proofs.Holding.{holds_within}
use Rattle.standin_book.specs.Approvals.{is_of, counts_above}
use Rattle.standin_book.proofs.Removed.{any_none, any_one, above_other}
use Rattle.standin_book.proofs.standin.any_counts_above.Goals as goal

pub counts_above_at-requires : goal.counts_above_at-requires
counts_above_at-requires c =
    let H : Place → Type 0 = λ p. Tells p (holds_at (is_of c.args.key) c.args.takes.now) in
    let t = subst H c.in-At.is c.requires in
    holds_within (is_of c.args.key) c.args.takes.now c.in-At.place t.0

pub returns-in-Nowhere : goal.returns-in-Nowhere
returns-in-Nowhere c =
    let H : Place → Type 0 = λ p. Tells p (holds_at (is_of c.args.key) c.args.takes.now) in
    sym (any_none (is_of c.args.key) (counts_above c.args.key c.args.actual) c.args.takes.now (above_other c.args.key c.args.actual) (subst H c.in-Nowhere.is c.requires))

pub returns-in-At : goal.returns-in-At
returns-in-At c =
    let H : Place → Type 0 = λ p. Tells p (holds_at (is_of c.args.key) c.args.takes.now) in
    let t = subst H c.in-At.is c.requires in
    let d : Take = record { key = c.args.key; card = []; date = []; amount = 0; left = 0 } in
    c.counts_above_at.ensures d ∙ sym (any_one (is_of c.args.key) (counts_above c.args.key c.args.actual) c.args.takes.now c.in-At.place d (above_other c.args.key c.args.actual) (holds_within (is_of c.args.key) c.args.takes.now c.in-At.place t.0) t.1)
