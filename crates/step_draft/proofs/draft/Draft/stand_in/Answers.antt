use Rattle.std.proofs.Common.{ap, ◌∙◌}
use Rattle.node_machine.specs.Lists.{view}
use Rattle.node_machine.specs.Steps as steps
use Rattle.node_books.specs.Effects.{progress}
use Rattle.pending_book.specs.Rows.{source_of}
use Rattle.step_draft.proofs.Parts.{on_ok}
use Rattle.step_draft.proofs.draft.Draft.stand_in.Goals as goal

pub returns-clause-ok : goal.returns-clause-ok
returns-clause-ok c =
    let t = c.args.tables.now in
    let n = c.args.node in
    let b = view t n c.args.self.now.base in
    on_ok c.stand_in_by.result (λ e count. e count ∙ ap (λ z. steps.standin_by t n b (record { message = c.args.request.now; source = source_of c.args.source; count = count }) z (progress c.args.self.now)) c.standin_code-code.ensures) c.stand_in_by.ensures.ok
