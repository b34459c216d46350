use Rattle.std.proofs.Common.{◌≡◌, refl, sym, subst, ◌∙◌, drop, take, get_or}
use Rattle.node_books.specs.declared.effect.Effect.{Effect}
use Rattle.node_books.specs.declared.effect.Effect.TheVariants as effects
use Rattle.book_index.specs.Found.{Tells, holds_at}
use Rattle.book_index.specs.declared.index.Place.{Place}
use Rattle.book_index.proofs.Holding.{holds_within}
use Rattle.entry_changes.specs.SoFar.{advice_from, advice_step}
use Rattle.entry_changes.specs.Late.{few, touches}
use Rattle.entry_changes.proofs.Folds.{advice_parts}
use Rattle.entry_changes.proofs.Lately.{none_touched, one_touched}
use Rattle.entry_changes.proofs.changes.Changes.advice_after.Goals as goal

pub advice_at-requires : goal.advice_at-requires
advice_at-requires c =
    let late = drop few c.self.inside.effects.items in
    let P : Place → Type 0 = λ p. Tells p (holds_at (touches c.args.id) late) in
    let told = subst P (sym c.in-At.ensures) (c.self.invariant.advices c.args.id) in
    let within = holds_within (touches c.args.id) late c.in-At.place told.0 in
    rw (c.parts.ensures.late, ← c.self.view_is) within

pub returns-in-Nowhere : goal.returns-in-Nowhere
returns-in-Nowhere c =
    let id = c.args.id in
    let all = c.self.inside.effects.items in
    let P : Place → Type 0 = λ p. Tells p (holds_at (touches id) (drop few all)) in
    let told = subst P (sym c.in-Nowhere.ensures) (c.self.invariant.advices id) in
    rw (c.advice_after-state.ensures, c.parts.ensures.first, ← c.self.view_is) (sym (advice_parts id few all c.args.before ∙ none_touched id (drop few all) (advice_from id (take few all) c.args.before) told))

pub returns-in-At : goal.returns-in-At
returns-in-At c =
    let id = c.args.id in
    let all = c.self.inside.effects.items in
    let P : Place → Type 0 = λ p. Tells p (holds_at (touches id) (drop few all)) in
    let told = subst P (sym c.in-At.ensures) (c.self.invariant.advices id) in
    let within = holds_within (touches id) (drop few all) c.in-At.place told.0 in
    let d : Effect = effects.Ticked in
    let state = advice_from id (take few all) c.args.before in
    let first : c.advice_after-state.result ≡ state = rw (c.advice_after-state.ensures, c.parts.ensures.first, ← c.self.view_is) refl in
    let late : c.parts.result.1.now ≡ drop few all = rw (c.parts.ensures.late, ← c.self.view_is) refl in
    let at : c.advice_at.result ≡ advice_step id (get_or (drop few all) c.in-At.place d) state = c.advice_at.ensures d ∙ (λ j. advice_step id (get_or (late j) c.in-At.place d) (first j)) in
    rw (← c.self.view_is) (at ∙ sym (advice_parts id few all c.args.before ∙ one_touched id (drop few all) state c.in-At.place d within told.1))
