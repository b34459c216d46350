use Rattle.std.proofs.Common.{ap, sym, ◌∙◌}
use Rattle.iso_message.specs.Made.{response}
use Rattle.node_machine.specs.Lists.{view}
use Rattle.node_machine.specs.Steps as steps
use Rattle.node_books.specs.Effects.{progress}
use Rattle.pending_book.specs.Rows.{source_of}
use Rattle.step_draft.proofs.Parts.{on_ok}
use Rattle.message_steps.proofs.Requested.{issuer_full, issuer_home, issuer_away}
use Rattle.message_steps.proofs.requests.take_request.Goals as goal

pub returns-then-is_full-clause-ok : goal.returns-then-is_full-clause-ok
returns-then-is_full-clause-ok c =
    let t = c.args.tables.now in
    let n = c.args.node in
    let b = view t n c.args.draft.now.base in
    let p = progress c.args.draft.now in
    let src = source_of c.args.source in
    on_ok c.respond-then-is_full.result (λ e. e t n ∙ (ap (λ z. steps.reply t n src (response c.args.m.now z) p) c.new-then-is_full.ensures ∙ issuer_full t n b c.args.m.now src c.in-Some.issuer.now _ p c.in-Some.ensures (sym (c.is_full.ensures t n) ∙ c.if-is_full.true))) c.respond-then-is_full.ensures.ok

pub returns-then-home-clause-ok : goal.returns-then-home-clause-ok
returns-then-home-clause-ok c =
    let t = c.args.tables.now in
    let n = c.args.node in
    let b = view t n c.args.draft.now.base in
    on_ok c.ask.result (λ e. e t n ∙ issuer_home t n b c.args.m.now (source_of c.args.source) c.in-Some.issuer.now _ (progress c.args.draft.now) c.in-Some.ensures (sym (c.is_full.ensures t n) ∙ c.if-is_full.false) (sym c.is_home-home.ensures ∙ c.if-home.true)) c.ask.ensures.ok

pub returns-clause-ok : goal.returns-clause-ok
returns-clause-ok c =
    let t = c.args.tables.now in
    let n = c.args.node in
    let b = view t n c.args.draft.now.base in
    on_ok c.forward.result (λ e. e ∙ issuer_away t n b c.args.m.now (source_of c.args.source) c.in-Some.issuer.now _ (progress c.args.draft.now) c.in-Some.ensures (sym (c.is_full.ensures t n) ∙ c.if-is_full.false) (sym c.is_home-home.ensures ∙ c.if-home.false)) c.forward.ensures.ok
