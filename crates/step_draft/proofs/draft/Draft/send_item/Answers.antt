use Rattle.std.proofs.Common.{ap, sym, ◌∙◌}
use Rattle.advice_slots.specs.Items.{case_of}
use Rattle.node_books.specs.Effects.{progress}
use Rattle.step_draft.proofs.Parts.{on_ok}
use Rattle.step_draft.proofs.Sends.{advice_again, grant_again}
use Rattle.step_draft.proofs.draft.Draft.send_item.Goals as goal

pub returns-in-Advice-clause-ok : goal.returns-in-Advice-clause-ok
returns-in-Advice-clause-ok c =
    let item = ap case_of (sym c.in-Advice.is) ∙ c.into_case.ensures in
    on_ok c.send_message.result (λ f. f ∙ advice_again c.args.tables.now c.args.node c.in-Advice.advice c.message-message.result.now c.args.item (progress c.args.self.now) c.message-message.ensures item) c.send_message.ensures.ok

pub returns-in-Grant-clause-ok : goal.returns-in-Grant-clause-ok
returns-in-Grant-clause-ok c =
    let item = ap case_of (sym c.in-Grant.is) ∙ c.into_case.ensures in
    on_ok c.send_grant.result (λ f. f ∙ grant_again c.args.tables.now c.args.node c.in-Grant.grant c.borrower-borrower.result c.grant-lent.result c.args.item (progress c.args.self.now) c.borrower-borrower.ensures c.grant-lent.ensures item) c.send_grant.ensures.ok
