use Rattle.std.proofs.Common.{◌≡◌, ap, ◌∙◌, true}
use Rattle.iso_message.specs.Fields.{Fields}
use Rattle.node_books.specs.Values.{NewAdvice}
use Rattle.step_draft.proofs.Parts.{on_ok, stored_is, home_at}
use Rattle.step_draft.proofs.draft.Draft.store_made.Goals as goal

pub returns-clause-ok : goal.returns-clause-ok
returns-clause-ok c =
    let t = c.args.tables.now in
    let n = c.args.node in
    let m = c.args.advice.now.message in
    let home = c.is_home_of-home.result in
    let advice : Fields → NewAdvice = λ x. record { message = x; count = c.args.count; own = true; home = home; put = c.args.put } in
    let is : c.made.result ≡ advice m = c.made.ensures ∙ ap advice c.in_ok-message.ensures in
    on_ok c.change.result (stored_is t n true m c.args.count c.args.put home c.args.self.now c.change.new.self c.made.result is (home_at t n m c.args.advice.now.card.now home c.args.advice.now.carded c.is_home_of-home.ensures)) c.change.ensures.ok
