use Rattle.std.proofs.Common.{ap, ◌∙◌}
use Rattle.network_law.specs.Traces.{ReadOutput, Post}
use Rattle.node_machine.specs.Steps.{emit}
use Rattle.node_books.specs.Effects.{progress}
use Rattle.step_draft.proofs.Parts.{on_ok}
use Rattle.step_draft.proofs.draft.Draft.post.Goals as goal

pub returns-clause-ok : goal.returns-clause-ok
returns-clause-ok c = on_ok c.emit.result (λ e. e ∙ ap (λ (o : ReadOutput). emit o (progress c.args.self.now)) (c.of_advice.ensures ∙ ap Post c.in_ok-message.ensures)) c.emit.ensures.emitted
