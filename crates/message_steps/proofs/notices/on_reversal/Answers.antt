use Rattle.std.proofs.Common.{ap, ◌∙◌}
use Rattle.node_machine.specs.Machine as machine
use Rattle.node_machine.specs.Lists.{Lists, view, is_among}
use Rattle.node_books.specs.Effects.{progress}
use Rattle.pending_book.specs.Rows.{source_of}
use Rattle.step_refusals.specs.Keyed.{request_at}
use Rattle.step_draft.proofs.Messages.{advice_key}
use Rattle.step_draft.proofs.Parts.{on_ok}
use Rattle.message_steps.proofs.Requested.{reversal_refused, reversal_kept}
use Rattle.message_steps.proofs.notices.on_reversal.Goals as goal

pub returns-in-Some-clause-ok : goal.returns-in-Some-clause-ok
returns-in-Some-clause-ok c =
    let t = c.args.tables.now in
    let n = c.args.node in
    let x = c.args.draft.now.base in
    let m = c.args.m.now in
    let p = progress c.args.draft.now in
    let key = advice_key m c.args.id c.requires.id in
    let other = c.in_ok-other.ensures ∙ ap (λ (y : Lists). machine.other_content (request_at y c.args.id.key) m) c.books.ensures in
    let known = c.is_known-known.ensures ∙ (ap (λ (y : Lists). is_among c.args.id y.known) c.books-2.ensures ∙ ap (λ z. is_among z x.known) c.requires.id) in
    on_ok c.respond.result (λ e. reversal_refused t n (view t n x) m (source_of c.args.source) p (progress c.respond.new.self) c.in-Some.code c.args.id.key _ _ key other known c.in-Some.ensures (e t n)) c.respond.ensures.ok

pub returns-clause-ok : goal.returns-clause-ok
returns-clause-ok c =
    let t = c.args.tables.now in
    let n = c.args.node in
    let x = c.args.draft.now.base in
    let m = c.args.m.now in
    let p = progress c.args.draft.now in
    let key = advice_key m c.args.id c.requires.id in
    let other = c.in_ok-other.ensures ∙ ap (λ (y : Lists). machine.other_content (request_at y c.args.id.key) m) c.books.ensures in
    let known = c.is_known-known.ensures ∙ (ap (λ (y : Lists). is_among c.args.id y.known) c.books-2.ensures ∙ ap (λ z. is_among z x.known) c.requires.id) in
    on_ok c.accept.result
    (λ e. reversal_kept t n (view t n x) m (source_of c.args.source) p (view t n c.answer_pending.new.draft.base) (progress c.answer_pending.new.draft) (progress c.accept.new.draft) c.args.id.key _ _ (ap (view t n) c.in_ok-answer_pending.ensures.base) key other known c.in_default.ensures c.in_ok-answer_pending.ensures.ok e)
    c.accept.ensures.ok
