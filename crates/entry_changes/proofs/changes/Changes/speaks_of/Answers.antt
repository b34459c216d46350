use Rattle.std.proofs.Common.{◌≡◌, List, drop, subst}
use Rattle.node_books.specs.declared.effect.Effect.{Effect}
use Rattle.entry_changes.specs.Late.{few}
use Rattle.entry_changes.specs.SoFar.{advice_from}
use Rattle.entry_changes.specs.declared.so_far.AdviceState.{AdviceState}
use Rattle.entry_changes.proofs.Lately.{neither}
use Rattle.entry_changes.proofs.changes.Changes.speaks_of.Goals as goal

pub returns-else-speak_of : goal.returns-else-speak_of
returns-else-speak_of c = λ none before.
    let Same : List Effect → Type 0 = λ es. (s : AdviceState) → advice_from c.args.id (drop few es) s ≡ s in
    let late = subst Same c.self.view_is (c.speak_of-else-speak_of.ensures (drop few c.self.inside.effects.items) c.self.invariant.advices none) in
    neither c.args.id few c.args.self.now c.parts.result.0.now before c.parts.ensures.first c.if-speak_of.ensures late
