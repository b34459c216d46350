use Rattle.std.proofs.Common.{◌≡◌, ap, refl, sym, ◌∙◌, ℕ}
use Rattle.entry_changes.specs.Late.{move_at, move_step}
use Rattle.entry_changes.specs.declared.link_moves.LinkMoves.{LinkMoves}
use Rattle.entry_changes.proofs.Lately.{any_err, late_again, late_more, told_again}
use Rattle.entry_changes.proofs.late.LateChanges.note.Goals as goal

pub returns-in_err-reserve-2-clause-err : goal.returns-in_err-reserve-2-clause-err
returns-in_err-reserve-2-clause-err c = any_err c.from_residual-in_err-reserve-2.result _ (λ es late. late_again es c.args.self.now (record { moves = c.reserve.new.self; advices = c.reserve-2.new.self; plain = c.args.self.now.plain }) c.reserve.ensures.moves c.reserve-2.ensures.found refl late)

pub returns-clause-ok : goal.returns-clause-ok
returns-clause-ok c = λ es len late.
    let e = c.args.effect.now in
    let old = c.args.self.now in
    let noted = c.note_advice.new.self in
    let moves : (l : ℕ) → move_at l noted.moves.moves.entries ≡ move_step l e (move_at l old.moves.moves.entries) = λ l. ap (λ (m : LinkMoves). move_at l m.moves.entries) c.note_advice.ensures.moves ∙ (c.note.ensures l ∙ ap (move_step l e) (c.reserve.ensures.moves l)) in
    let told = told_again es old.advices.index.places.entries c.reserve-2.new.self.index.places.entries c.reserve-2.ensures.found late.advices in
    late_more es e old (record { moves = noted.moves; advices = noted.advices; plain = c.still_plain-self.result }) moves (c.note_advice.ensures.advices es len told) (λ t. let p = c.still_plain-self.ensures t in (sym c.note_advice.ensures.plain ∙ p.0, p.1)) late
