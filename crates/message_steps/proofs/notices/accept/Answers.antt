use Rattle.std.proofs.Common.{◌≡◌, ap, ◌∙◌, false}
use Rattle.iso_message.specs.Made.{response}
use Rattle.node_machine.specs.Lists.{Lists, view}
use Rattle.node_machine.specs.Steps as steps
use Rattle.node_books.specs.Effects.{Drafted, progress}
use Rattle.pending_book.specs.Rows.{source_of}
use Rattle.step_draft.proofs.Parts.{on_ok}
use Rattle.message_steps.proofs.Requested.{accept_steps}
use Rattle.message_steps.proofs.notices.accept.Goals as goal

pub returns-clause-ok : goal.returns-clause-ok
returns-clause-ok c =
    let t = c.args.tables.now in
    let n = c.args.node in
    let b = view t n c.args.draft.now.base in
    let src = source_of c.args.source in
    let m = c.args.m.now in
    let p0 = progress c.args.draft.now in
    let p1 = progress c.respond_to.new.self in
    let p2 = progress c.store_accepted.new.self in
    let kept = c.in_ok-advice.advice.message in
    let count = c.count_now-count.result in
    let before : c.kept.new.self ≡ c.args.draft.now = c.in_ok-kept.ensures.same in
    let between : c.kept_advice.new.self ≡ c.respond_to.new.self = c.in_ok-advice.ensures.same in
    let answered : p1 ≡ steps.reply t n src (response m c.new-approved.result) p0 = c.in_ok-respond_to.ensures.ok t n ∙ ap (λ (d : Drafted). steps.reply t n src (response m c.new-approved.result) (progress d)) before in
    let stored : p2 ≡ steps.store t n false kept count false p1 = c.in_ok-store_accepted.ensures.ok ∙ ap (λ (d : Drafted). steps.store t n false kept count false (progress d)) between in
    let base : c.store_accepted.new.self.base ≡ c.args.draft.now.base = c.in_ok-store_accepted.ensures.base ∙ ap (λ (d : Drafted). d.base) between ∙ c.in_ok-respond_to.ensures.base ∙ ap (λ (d : Drafted). d.base) before in
    on_ok c.keep.result (λ e. accept_steps t n b m src kept count p0 p1 p2 (progress c.keep.new.self) (answered ∙ ap (λ z. steps.reply t n src (response m z) p0) c.new-approved.ensures) c.in_ok-advice.ensures.kept c.count_now-count.ensures stored (e ∙ ap (λ (z : Lists). steps.keep t n (view t n z) kept p2) base)) c.keep.ensures.ok
