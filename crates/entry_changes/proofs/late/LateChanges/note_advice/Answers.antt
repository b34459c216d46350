use Rattle.std.proofs.Common.{ap, sym, ◌∙◌, cond}
use Rattle.message_keys.specs.Keys.{identity_eq}
use Rattle.book_index.specs.Found.{found, joined}
use Rattle.entry_changes.proofs.Lately.{none_told, one_told}
use Rattle.entry_changes.proofs.late.LateChanges.note_advice.Goals as goal

pub returns-in-Some-clause-advices : goal.returns-in-Some-clause-advices
returns-in-Some-clause-advices c = λ es len told.
    let k = c.in-Some.id in
    let old = c.args.self.now.advices.index.places.entries in
    one_told es c.args.effect.now k old c.add.new.self.index.places.entries c.in-Some.ensures (λ id. c.add.ensures id ∙ ap (λ n. cond (identity_eq k id) (joined (found (identity_eq k) old) n) (found (identity_eq id) old)) (sym len)) told

pub returns-in_default-clause-advices : goal.returns-in_default-clause-advices
returns-in_default-clause-advices c = λ es len told. none_told es c.args.effect.now c.args.self.now.advices.index.places.entries c.in_default.ensures told
