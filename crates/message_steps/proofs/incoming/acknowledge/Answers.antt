use Rattle.step_draft.proofs.Parts.{on_ok}
use Rattle.message_steps.proofs.Coming.{acked_steps}
use Rattle.message_steps.proofs.incoming.acknowledge.Goals as goal

pub returns-clause-ok : goal.returns-clause-ok
returns-clause-ok c = on_ok c.change.result (λ e t n link serial. acked_steps t n link serial c.args.m.now c.identity-id.result c.args.draft.now c.change.new.self c.requires.empty c.requires.ack c.identity-id.ensures e) c.change.ensures.ok
