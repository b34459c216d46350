use Rattle.std.proofs.Common.{sym, subst}
use Rattle.book_index.specs.Found.{Tells, holds_at}
use Rattle.book_index.specs.declared.index.Place.{Place}
use Rattle.entry_changes.specs.Late.{touches}
use Rattle.entry_changes.proofs.Lately.{none_touched}
use Rattle.entry_changes.proofs.late.LateChanges.speak_of.Goals as goal

pub returns-in-Nowhere : goal.returns-in-Nowhere
returns-in-Nowhere c = λ es told same before.
    let P : Place → Type 0 = λ p. Tells p (holds_at (touches c.args.id) es) in
    none_touched c.args.id es before (subst P (sym c.in-Nowhere.ensures) (told c.args.id))
