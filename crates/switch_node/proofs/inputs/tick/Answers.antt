use Rattle.std.proofs.Common.{◌≡◌, refl, sym, subst, ◌∙◌}
use Rattle.node_machine.specs.Lists.{Lists}
use Rattle.node_books.specs.Effects.{progress}
use Rattle.node_books.specs.declared.effect.Effect.TheVariants as effects
use Rattle.step_draft.specs.Used.{IsQuiet}
use Rattle.step_draft.proofs.Parts.{on_ok}
use Rattle.switch_node.proofs.Starts.{changed, tick_quiet, ticks}
use Rattle.switch_node.proofs.inputs.tick.Goals as goal

pub send_all-requires : goal.send_all-requires
send_all-requires c =
    let x = c.args.draft.now.base in
    tick_quiet x c.change.new.self (changed x effects.Ticked c.args.draft.now c.change.new.self c.requires.empty refl c.in_ok-change.ensures.ok)

pub fail_all-requires-clause-quiet : goal.fail_all-requires-clause-quiet
fail_all-requires-clause-quiet c = subst (λ (z : Lists). IsQuiet z (progress c.send_all.new.self).lists) (sym c.in_ok-send_all.ensures.base) c.in_ok-send_all.ensures.quiet

pub returns-clause-ok : goal.returns-clause-ok
returns-clause-ok c =
    let x = c.args.draft.now.base in
    let e = changed x effects.Ticked c.args.draft.now c.change.new.self c.requires.empty refl c.in_ok-change.ensures.ok in
    let base : c.change.new.self.base ≡ x = Rattle.std.proofs.Common.ap (λ (z : Rattle.node_books.specs.Effects.Drafted). z.base) e in
    on_ok c.fail_all.result (λ f. ticks c.args.tables.now c.args.node x c.send_all.new.self.base c.change.new.self (progress c.send_all.new.self) (progress c.fail_all.new.self) e (c.in_ok-send_all.ensures.base ∙ base) c.in_ok-send_all.ensures.ok f) c.fail_all.ensures.ok
