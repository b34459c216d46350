use Rattle.std.proofs.Common.{◌≡◌, ◌≤◌, ◌+◌, List, refl, sym, ap, subst, ◌∙◌, arith}
use Rattle.node_machine.specs.Lists.{left_marks}
use Rattle.node_books.specs.declared.effect.Effect.{Effect}
use Rattle.node_books.specs.declared.effect.Effect.TheVariants as effects
use Rattle.book_index.specs.declared.card_day.CardDay.{CardDay}
use Rattle.book_index.specs.Sums.{sum_at, amount_on}
use Rattle.step_draft.specs.Outputs.{spelled_in}
use Rattle.step_draft.specs.Used.{AreLateUses}
use Rattle.step_draft.proofs.Drafts.{quiet_more}
use Rattle.step_draft.proofs.LateUses.{uses_more}
use Rattle.step_draft.proofs.draft.Draft.approve_late.Goals as goal

pub invariant_of-self-2 : goal.invariant_of-self-2
invariant_of-self-2 c =
    let a = c.args.approval in
    let es = c.self.inside.effects in
    let marks = c.self.inside.books.lists.marks in
    let old = c.self.inside.late_uses.amounts.entries in
    let new = c.add.new.self.amounts.entries in
    let day : CardDay = record { card = a.card; date = a.date } in
    let pushed = c.in_ok-push.ensures.ok in
    let quiet : spelled_in es ≡ spelled_in c.push.new.self = quiet_more es (effects.Approved a) refl ∙ ap spelled_in (sym pushed) in
    let left : c.value.result ≡ left_marks a.key marks a.amount = c.value.ensures.value ∙ (c.left_of-left.ensures ∙ (λ j. left_marks (c.key.ensures j) marks (c.amount.ensures j))) in
    let few = rw (← c.self.view_is) at c.requires in
    let range = c.value.ensures.in_range in
    let small : left_marks a.key marks a.amount ≤ 1000000000000 = omega (arith, range, left) in
    let more : (other : CardDay) → sum_at new other ≡ sum_at old other + amount_on day (left_marks a.key marks a.amount) other = λ other. c.add.ensures.sums other ∙ (λ j. c.reserve.ensures.sums other j + amount_on (c.day-day.ensures j) (left j) other) in
    let P : List Effect → Type 0 = λ z. AreLateUses marks z new in
    (c.self.invariant.0 ∙ quiet, subst P (sym pushed) (uses_more marks es a old new few small more c.self.invariant.1))
