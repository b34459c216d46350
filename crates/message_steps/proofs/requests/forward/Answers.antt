use Rattle.std.proofs.Common.{refl, ◌∙◌}
use Rattle.node_machine.specs.Lists.{view}
use Rattle.node_books.specs.Effects.{progress}
use Rattle.pending_book.specs.Rows.{source_of}
use Rattle.node_machine.specs.Steps as steps
use Rattle.step_draft.proofs.Parts.{on_ok, of_kept}
use Rattle.message_steps.proofs.Requested.{forward_some, forward_none}
use Rattle.message_steps.proofs.requests.forward.Goals as goal

pub returns-in_ok-forward-in-Some-clause-ok : goal.returns-in_ok-forward-in-Some-clause-ok
returns-in_ok-forward-in-Some-clause-ok c =
    let t = c.args.tables.now in
    let n = c.args.node in
    on_ok c.put_kept.result (λ e. e t n ∙ (of_kept (steps.put_on t n c.in-Some.link) _ _ _ _ c.in_ok-forward-in-Some.ensures.message c.in_ok-forward-in-Some.ensures.same ∙ forward_some t n (view t n c.args.draft.now.base) c.args.m.now (source_of c.args.source) c.in-Some.link _ (progress c.args.draft.now) _ c.in-Some.ensures refl)) c.put_kept.ensures.ok

pub returns-in-None-clause-ok : goal.returns-in-None-clause-ok
returns-in-None-clause-ok c =
    let t = c.args.tables.now in
    let n = c.args.node in
    on_ok c.stand_in.result (λ e. e c.args.draft.now.base.count ∙ forward_none t n (view t n c.args.draft.now.base) c.args.m.now (source_of c.args.source) (progress c.args.draft.now) _ c.in-None.ensures) c.stand_in.ensures.ok
