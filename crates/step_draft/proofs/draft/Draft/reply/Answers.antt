use Rattle.std.proofs.Common.{◌∙◌}
use Rattle.node_machine.specs.Steps as steps
use Rattle.pending_book.specs.Rows.{source_of}
use Rattle.step_draft.proofs.Parts.{on_ok, of_kept}
use Rattle.step_draft.proofs.draft.Draft.reply.Goals as goal

pub returns-clause-ok : goal.returns-clause-ok
returns-clause-ok c = on_ok c.reply_kept.result (λ f t n. f t n ∙ of_kept (steps.reply t n (source_of c.args.source)) _ _ _ _ c.in_ok-kept.ensures.kept c.in_ok-kept.ensures.same) c.reply_kept.ensures.ok
