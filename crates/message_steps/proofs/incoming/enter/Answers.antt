use Rattle.network_law.specs.Traces.{Gate}
use Rattle.node_books.specs.Effects.{progress}
use Rattle.step_draft.proofs.Parts.{on_ok}
use Rattle.message_steps.proofs.Coming.{enter_steps, opened_quiet}
use Rattle.message_steps.proofs.Complete.{complete_handled}
use Rattle.message_steps.proofs.incoming.enter.Goals as goal

pub on_message-requires-clause-quiet : goal.on_message-requires-clause-quiet
on_message-requires-clause-quiet c = opened_quiet c.args.draft.now.base c.open.new.draft.base (record { message = c.prepare.new.m; source = Gate }) (progress c.open.new.draft) c.in_ok-opened.ensures.base c.in_ok-opened.ensures.ok

pub returns-clause-ok : goal.returns-clause-ok
returns-clause-ok c = on_ok c.on_message.result (λ e. enter_steps c.args.tables.now c.args.node c.args.draft.now.base c.open.new.draft.base c.args.m.now c.prepare.new.m (progress c.open.new.draft) (progress c.on_message.new.draft) c.in_ok-prepare.ensures c.in_ok-opened.ensures.ok c.in_ok-opened.ensures.base e) c.on_message.ensures.ok

pub open-requires-clause-complete : goal.open-requires-clause-complete
open-requires-clause-complete c = complete_handled c.args.draft.now.base.date c.args.m.now c.prepare.new.m c.in_ok-prepare.ensures c.requires.complete

pub on_message-requires-clause-complete : goal.on_message-requires-clause-complete
on_message-requires-clause-complete c = complete_handled c.args.draft.now.base.date c.args.m.now c.prepare.new.m c.in_ok-prepare.ensures c.requires.complete
