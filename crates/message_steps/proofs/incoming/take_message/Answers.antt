use Rattle.std.proofs.Common.{sym, ◌∙◌}
use Rattle.std.specs.Prelude.{bytes_eq}
use Rattle.message_keys.specs.Keys.{code_of}
use Rattle.message_elements.specs.Codes.{code_00}
use Rattle.message_elements.specs.Groups.{group}
use Rattle.network_law.specs.Traces.{ByLink}
use Rattle.node_books.specs.Effects.{progress}
use Rattle.step_draft.proofs.Parts.{on_ok}
use Rattle.message_steps.proofs.Coming.{take_steps, opened_quiet}
use Rattle.message_steps.proofs.Complete.{acknowledged_known}
use Rattle.message_steps.proofs.incoming.take_message.Goals as goal

pub on_message-requires-clause-quiet : goal.on_message-requires-clause-quiet
on_message-requires-clause-quiet c = opened_quiet c.args.draft.now.base c.open.new.draft.base (record { message = c.args.m.now; source = ByLink c.args.link }) (progress c.open.new.draft) c.in_ok-opened.ensures.base c.in_ok-opened.ensures.ok

pub returns-clause-ok : goal.returns-clause-ok
returns-clause-ok c = on_ok c.on_message.result (λ e serial. take_steps c.args.tables.now c.args.node c.args.draft.now.base c.open.new.draft.base c.args.link serial c.args.m.now (progress c.open.new.draft) (progress c.on_message.new.draft) (sym c.is_acknowledgement.ensures ∙ c.if-is_acknowledgement.false) c.in_ok-opened.ensures.ok c.in_ok-opened.ensures.base e) c.on_message.ensures.ok

pub acknowledge-requires-clause-identity : goal.acknowledge-requires-clause-identity
acknowledge-requires-clause-identity c = acknowledged_known (group c.args.m.now.kind) c.args.m.now (bytes_eq (code_of c.args.m.now) code_00) (sym c.is_acknowledgement.ensures ∙ c.if-is_acknowledgement.true) c.requires.complete
