use Rattle.std.proofs.Common.{◌≡◌, ap, ◌∙◌, true}
use Rattle.iso_message.specs.Fields.{Fields}
use Rattle.iso_message.specs.Made.{made_reversal}
use Rattle.network_law.specs.Tables.{node_id}
use Rattle.node_machine.specs.Lists.{Lists, view}
use Rattle.node_machine.specs.Steps as steps
use Rattle.node_books.specs.Effects.{Drafted, progress}
use Rattle.pending_book.specs.Rows.{source_of}
use Rattle.step_draft.proofs.Parts.{on_ok, fail_steps}
use Rattle.step_draft.proofs.draft.Draft.fail_request.Goals as goal

pub returns-clause-ok : goal.returns-clause-ok
returns-clause-ok c =
    let t = c.args.tables.now in
    let n = c.args.node in
    let b = view t n c.args.self.now.base in
    let p0 = progress c.args.self.now in
    let p1 = progress c.keep.new.self in
    let p2 = progress c.store_made.new.self in
    let m = c.in_ok-reversal.reversal.message in
    let rev : m ≡ made_reversal c.args.request.now (node_id t n) = c.in_ok-reversal.ensures.made in
    let same : c.reversal.new.self ≡ c.args.self.now = c.in_ok-reversal.ensures.same in
    let kept : p1 ≡ steps.keep t n b (made_reversal c.args.request.now (node_id t n)) p0 = c.in_ok-keep.ensures.ok ∙ (λ j. steps.keep t n (view t n (Drafted.base (same j))) (rev j) (progress (same j))) in
    let put : c.is_sent-put.result ≡ steps.is_sent t n b (made_reversal c.args.request.now (node_id t n)) p0 = c.is_sent-put.ensures ∙ (λ j. steps.is_sent t n (view t n (Drafted.base (same j))) (rev j) (progress (same j))) in
    let stored : p2 ≡ steps.store t n true (made_reversal c.args.request.now (node_id t n)) c.count_now-count.result c.is_sent-put.result p1 = c.in_ok-store_made.ensures.ok ∙ ap (λ (z : Fields). steps.store t n true z c.count_now-count.result c.is_sent-put.result p1) rev in
    let base : c.store_made.new.self.base ≡ c.args.self.now.base = c.in_ok-store_made.ensures.base ∙ c.in_ok-keep.ensures.base ∙ ap (λ (z : Drafted). z.base) same in
    on_ok c.stand_in_by.result
    (λ e count. fail_steps t n b (record { message = c.args.request.now; source = source_of c.args.source; count = count }) c.is_sent-put.result c.standin_code-code.result c.count_now-count.result p0 p1 p2 (progress c.stand_in_by.new.self) kept put c.standin_code-code.ensures c.count_now-count.ensures stored
    (e count ∙ ap (λ (z : Lists). steps.standin_by t n (view t n z) (record { message = c.args.request.now; source = source_of c.args.source; count = count }) c.standin_code-code.result p2) base))
    c.stand_in_by.ensures.ok
