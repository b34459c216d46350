use Rattle.std.proofs.Common.{◌≡◌, rules, ap, ◌∙◌}
use Rattle.std.specs.Prelude.{slice_set, insert}
use Rattle.iso_message.specs.Finding.{put}
use Rattle.iso_message.specs.Spans.{seen, placed}
use Rattle.iso_message.proofs.SpansMore.{on_err}
use Rattle.iso_message.proofs.Finding.{put_behind, placed_within, longer_within, longer_seen}
use Rattle.iso_message.proofs.elements.Elements.put.Goals as goal

pub invariant_of-self : goal.invariant_of-self
invariant_of-self c = longer_within c.self.inside.values.items c.append.new.values.items c.self.inside.spans.items c.append.ensures.more c.self.invariant

pub returns-in_err-span-clause-err : goal.returns-in_err-span-clause-err
returns-in_err-span-clause-err c = on_err c.from_residual.result _ (longer_seen c.self.inside.values.items c.append.new.values.items c.self.inside.spans.items c.append.ensures.more c.self.invariant ∙ c.self.view_is)

pub invariant_of-self-in-Ok : goal.invariant_of-self-in-Ok
invariant_of-self-in-Ok c =
    let s = c.in_ok-span.span in
    let at : slice_set c.deref.result.now c.in-Ok.place s ≡ placed s c.deref.result.now = c.in-Ok.ensures.place s c.in_ok-span.ensures.number in
    let spans : slice_set c.self.inside.spans.items c.in-Ok.place s ≡ placed s c.self.inside.spans.items = rw (c.deref.ensures.value) at at in
    rw spans (placed_within c.self.inside.values.items c.append.new.values.items c.self.inside.spans.items s c.append.ensures.more c.self.invariant c.in_ok-span.ensures.within)

pub invariant_of-self-in-Continue-branch-2 : goal.invariant_of-self-in-Continue-branch-2
invariant_of-self-in-Continue-branch-2 c =
    let s = c.in_ok-span.span in
    let at : insert c.deref.result.now c.in-Err.place s ≡ placed s c.deref.result.now = c.in-Err.ensures.place s c.in_ok-span.ensures.number in
    let spans : insert c.self.inside.spans.items c.in-Err.place s ≡ placed s c.self.inside.spans.items = rw (c.deref.ensures.value) at at in
    let new : c.insert.new.self.items ≡ insert c.self.inside.spans.items c.in-Err.place s = search rules in
    rw (new, spans) (placed_within c.self.inside.values.items c.append.new.values.items c.self.inside.spans.items s c.append.ensures.more c.self.invariant c.in_ok-span.ensures.within)

pub invariant_of-self-in_err-insert-in-Err : goal.invariant_of-self-in_err-insert-in-Err
invariant_of-self-in_err-insert-in-Err c =
    let spans : c.insert.new.self.items ≡ c.self.inside.spans.items = search rules in
    rw spans (longer_within c.self.inside.values.items c.append.new.values.items c.self.inside.spans.items c.append.ensures.more c.self.invariant)

pub returns-in_err-insert-in-Err-clause-err : goal.returns-in_err-insert-in-Err-clause-err
returns-in_err-insert-in-Err-clause-err c =
    let spans : c.insert.new.self.items ≡ c.self.inside.spans.items = search rules in
    on_err c.from_residual-in_err-insert-in-Err.result _ (rw spans (longer_seen c.self.inside.values.items c.append.new.values.items c.self.inside.spans.items c.append.ensures.more c.self.invariant ∙ c.self.view_is))

pub returns-in-Ok-clause-ok : goal.returns-in-Ok-clause-ok
returns-in-Ok-clause-ok c =
    let s = c.in_ok-span.span in
    let at : slice_set c.deref.result.now c.in-Ok.place s ≡ placed s c.deref.result.now = c.in-Ok.ensures.place s c.in_ok-span.ensures.number in
    let spans : slice_set c.self.inside.spans.items c.in-Ok.place s ≡ placed s c.self.inside.spans.items = rw (c.deref.ensures.value) at at in
    ap (seen c.append.new.values.items) spans
    ∙ put_behind c.self.inside.values.items c.append.new.values.items c.self.inside.spans.items s c.args.number c.args.content.now c.append.ensures.more c.self.invariant c.in_ok-span.ensures.number c.in_ok-span.ensures.shows
    ∙ ap (put c.args.number c.args.content.now) c.self.view_is

pub returns-in_ok-insert-in-Err-clause-ok : goal.returns-in_ok-insert-in-Err-clause-ok
returns-in_ok-insert-in-Err-clause-ok c =
    let s = c.in_ok-span.span in
    let at : insert c.deref.result.now c.in-Err.place s ≡ placed s c.deref.result.now = c.in-Err.ensures.place s c.in_ok-span.ensures.number in
    let spans : insert c.self.inside.spans.items c.in-Err.place s ≡ placed s c.self.inside.spans.items = rw (c.deref.ensures.value) at at in
    let new : c.insert.new.self.items ≡ insert c.self.inside.spans.items c.in-Err.place s = search rules in
    ap (seen c.append.new.values.items) (new ∙ spans)
    ∙ put_behind c.self.inside.values.items c.append.new.values.items c.self.inside.spans.items s c.args.number c.args.content.now c.append.ensures.more c.self.invariant c.in_ok-span.ensures.number c.in_ok-span.ensures.shows
    ∙ ap (put c.args.number c.args.content.now) c.self.view_is
