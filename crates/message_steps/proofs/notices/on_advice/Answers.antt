use Rattle.std.proofs.Common.{ap, ◌∙◌}
use Rattle.node_machine.specs.Lists.{Lists, view, is_among}
use Rattle.node_books.specs.Effects.{progress}
use Rattle.pending_book.specs.Rows.{source_of}
use Rattle.step_draft.proofs.Parts.{on_ok}
use Rattle.message_steps.proofs.Requested.{advice_refused, advice_kept}
use Rattle.message_steps.proofs.notices.on_advice.Goals as goal

pub returns-in-Some-clause-ok : goal.returns-in-Some-clause-ok
returns-in-Some-clause-ok c =
    let t = c.args.tables.now in
    let n = c.args.node in
    let x = c.args.draft.now.base in
    let m = c.args.m.now in
    let p = progress c.args.draft.now in
    let known = c.is_known-known.ensures ∙ (ap (λ (y : Lists). is_among c.args.id y.known) c.books.ensures ∙ ap (λ z. is_among z x.known) c.requires.id) in
    on_ok c.respond.result (λ e. advice_refused t n (view t n x) m (source_of c.args.source) p (progress c.respond.new.self) c.in-Some.code _ known c.in-Some.ensures (e t n)) c.respond.ensures.ok

pub returns-clause-ok : goal.returns-clause-ok
returns-clause-ok c =
    let t = c.args.tables.now in
    let n = c.args.node in
    let x = c.args.draft.now.base in
    let m = c.args.m.now in
    let p = progress c.args.draft.now in
    let known = c.is_known-known.ensures ∙ (ap (λ (y : Lists). is_among c.args.id y.known) c.books.ensures ∙ ap (λ z. is_among z x.known) c.requires.id) in
    on_ok c.accept.result (λ e. advice_kept t n (view t n x) m (source_of c.args.source) p (progress c.accept.new.draft) _ known c.in_default.ensures e) c.accept.ensures.ok
