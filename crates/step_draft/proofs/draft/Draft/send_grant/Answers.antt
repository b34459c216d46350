use Rattle.std.proofs.Common.{◌∙◌}
use Rattle.node_books.specs.Effects.{progress}
use Rattle.step_draft.proofs.Parts.{on_ok}
use Rattle.step_draft.proofs.Sends.{grant_found}
use Rattle.step_draft.proofs.draft.Draft.send_grant.Goals as goal

pub returns-in-Some-clause-ok : goal.returns-in-Some-clause-ok
returns-in-Some-clause-ok c = on_ok c.emit_packet.result (λ e. e ∙ grant_found c.args.tables.now c.args.node c.args.grant c.in-Some.link c.next_serial-serial.result (progress c.args.self.now) _ c.in-Some.ensures c.next_serial-serial.ensures) c.emit_packet.ensures.emitted
