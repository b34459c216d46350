use Rattle.std.proofs.Common.{sym, ap, length, get_or, ◌∙◌, arith}
use Rattle.net_replay.proofs.Merging.{first_taken}
use Rattle.net_replay.proofs.steps.Steps.next_step.Goals as goal

pub returns : goal.returns
returns c =
    let rests = c.deref.ensures.value in
    let rest = c.in_ok-rest.field-0.now in
    let at = c.in_ok-rest.ensures.lookup in
    sym c.self.view_is
    ∙ first_taken c.self.inside.rests.items c.self.inside.line_nodes.now c.in_ok-node.lines.now c.in_ok-node.node.now c.place-place.result rest c.in_ok-entry.later c.in_ok-entry.entry.now
    c.in_ok-node.ensures.cases.0 c.place-place.ensures.place (omega (arith, at.3.0, ap length rests)) (at.1 ∙ ap (λ z. get_or z c.place-place.result rest) rests) c.in_ok-entry.ensures.cases.0
