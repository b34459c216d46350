use Rattle.std.proofs.Common.{◌≡◌, refl, [], ◌∷◌, ap, sym, ◌∙◌}
use Rattle.node_machine.specs.Lists.{Lists}
use Rattle.node_books.specs.Effects.{progress}
use Rattle.node_books.specs.declared.effect.Effect.TheVariants as effects
use Rattle.step_draft.proofs.Parts.{on_ok}
use Rattle.switch_node.proofs.Starts.{changed, lends}
use Rattle.switch_node.proofs.inputs.lend.Goals as goal

pub returns-clause-ok : goal.returns-clause-ok
returns-clause-ok c =
    let x = c.args.draft.now.base in
    let count : c.count.result ≡ x.count = c.count.ensures.count ∙ ap (λ (y : Lists). y.count) c.books.ensures in
    let same = c.new_grant-grant.ensures ∙ sym c.new_grant-again.ensures in
    let kept : c.new-kept.result ≡ record { grant = c.new_grant-again.result; borrower = c.args.borrower; count = x.count } = c.new-kept.ensures ∙ (λ j. record { grant = same j; borrower = c.args.borrower; count = count j }) in
    let e = changed x (effects.Lent c.new-kept.result) c.args.draft.now c.change.new.self c.requires refl c.in_ok-change.ensures.ok ∙ (λ j. record { base = x; effects = effects.Lent (kept j) ∷ [] }) in
    on_ok c.send_grant.result (λ f. lends c.args.tables.now c.args.node c.args.borrower c.args.card.now c.args.date.now c.args.amount c.new_grant-again.result x c.change.new.self (progress c.send_grant.new.self) c.new_grant-again.ensures e f) c.send_grant.ensures.ok
