use Rattle.std.proofs.Common.{ap, sym, ◌∙◌}
use Rattle.entry_changes.specs.SoFar.{advice_state}
use Rattle.entry_changes.specs.declared.so_far.AdviceState.{AdviceState}
use Rattle.step_draft.proofs.SoFar.{advice_are}
use Rattle.step_draft.proofs.draft.Draft.was_put.Goals as goal

pub returns-then-not-speaks_of : goal.returns-then-not-speaks_of
returns-then-not-speaks_of c t n = rw (← c.self.view_is) (c.was_put.ensures ∙ ap (λ (s : AdviceState). s.put) (sym (c.speaks_of.ensures c.if-not-speaks_of.true (advice_state c.args.id c.self.inside.books.lists)) ∙ advice_are c.args.id c.self.inside.effects c.self.inside.books.lists))

pub returns : goal.returns
returns c t n = rw (← c.self.view_is) (ap (λ (s : AdviceState). s.put) ((rw (c.is_known.ensures, c.is_stored.ensures, c.was_put-2.ensures) at c.advice_after.ensures) ∙ advice_are c.args.id c.self.inside.effects c.self.inside.books.lists))
