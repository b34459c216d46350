use Rattle.std.proofs.Common.{sym, ◌∙◌}
use Rattle.node_books.specs.Effects.{progress}
use Rattle.kept_messages.proofs.Codes.{found_code}
use Rattle.message_steps.proofs.Messages.{known_key}
use Rattle.step_draft.proofs.Parts.{on_ok}
use Rattle.message_steps.proofs.Coming.{answer_coded}
use Rattle.message_steps.proofs.Complete.{not_absent}
use Rattle.message_steps.proofs.incoming.on_answer.Goals as goal

pub returns-clause-ok : goal.returns-clause-ok
returns-clause-ok c =
    let key = known_key c.args.m.now c.in-Some.key (sym c.in-Some.ensures) in
    let code = sym (found_code c.args.m.now c.in-Some-code_of.code (sym c.in-Some-code_of.ensures)) in
    on_ok c.on_code.result (λ e. e ∙ answer_coded c.args.tables.now c.args.node c.args.draft.now.base c.args.m.now c.args.link c.in-Some.key c.in-Some-code_of.code (progress c.args.draft.now) key code) c.on_code.ensures.ok

pub unreachable-requires-in_default-code_of : goal.unreachable-requires-in_default-code_of
unreachable-requires-in_default-code_of c = not_absent c.args.m.now 39 c.requires.code c.in_default-code_of.ensures
