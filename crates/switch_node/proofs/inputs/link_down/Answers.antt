use Rattle.std.proofs.Common.{refl, false}
use Rattle.node_books.specs.Effects.{progress}
use Rattle.node_books.specs.declared.effect.Effect.TheVariants as effects
use Rattle.step_draft.proofs.Parts.{on_ok}
use Rattle.switch_node.proofs.Starts.{changed, down_quiet, downs}
use Rattle.switch_node.proofs.inputs.link_down.Goals as goal

pub fail_all-requires-clause-quiet : goal.fail_all-requires-clause-quiet
fail_all-requires-clause-quiet c =
    let x = c.args.draft.now.base in
    down_quiet x c.args.l false c.change.new.self (changed x (effects.LinkIs c.args.l false) c.args.draft.now c.change.new.self c.requires.empty refl c.in_ok-change.ensures.ok)

pub returns-clause-ok : goal.returns-clause-ok
returns-clause-ok c =
    let x = c.args.draft.now.base in
    let e = changed x (effects.LinkIs c.args.l false) c.args.draft.now c.change.new.self c.requires.empty refl c.in_ok-change.ensures.ok in
    on_ok c.fail_all.result (λ f. downs c.args.tables.now c.args.node c.args.l x c.change.new.self c.change.new.self (progress c.fail_all.new.self) e f) c.fail_all.ensures.ok
