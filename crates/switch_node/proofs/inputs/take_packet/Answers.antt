use Rattle.std.proofs.Common.{refl}
use Rattle.node_books.specs.Effects.{progress}
use Rattle.node_books.specs.declared.effect.Effect.TheVariants as effects
use Rattle.step_draft.proofs.Parts.{on_ok}
use Rattle.switch_node.proofs.Starts.{changed, packets_taken}
use Rattle.switch_node.proofs.inputs.take_packet.Goals as goal

pub returns-clause-ok : goal.returns-clause-ok
returns-clause-ok c =
    let x = c.args.draft.now.base in
    let e = changed x (effects.PacketTaken c.args.packet.now) c.args.draft.now c.change.new.self c.requires refl c.in_ok-change.ensures.ok in
    on_ok c.answer_packet.result (λ f t n serial. packets_taken t n c.args.link serial c.args.packet.now x c.change.new.self (progress c.answer_packet.new.draft) e (f t n)) c.answer_packet.ensures.ok
