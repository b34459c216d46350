use Rattle.std.proofs.Common.{ap, ◌∙◌, refl}
use Rattle.iso_message.specs.Fields.{as_kind}
use Rattle.node_machine.specs.Steps as steps
use Rattle.node_books.specs.Effects.{Drafted, progress}
use Rattle.step_draft.proofs.Parts.{on_ok, send_found}
use Rattle.step_draft.proofs.draft.Draft.send_by.Goals as goal

pub returns-clause-ok : goal.returns-clause-ok
returns-clause-ok c =
    let t = c.args.tables.now in
    let n = c.args.node in
    let x = c.args.message.now in
    let sent = c.in_ok-sent.sent in
    let made = c.in_ok-sent.ensures.kept ∙ ap (λ k. as_kind k x) (c.sent_kind-kind.ensures ∙ rw (c.is_04xx.ensures, c.kind.ensures, c.was_put.ensures t n, c.requires.id) refl) in
    on_ok c.put_advice.result (λ e. e t n ∙ ap (λ (d : Drafted). steps.put_on t n c.args.link sent (progress d)) c.in_ok-sent.ensures.same ∙ send_found t n x (progress c.args.self.now) c.args.link sent c.requires.way made) c.put_advice.ensures.ok
