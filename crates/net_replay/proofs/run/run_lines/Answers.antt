use Rattle.std.proofs.Common.{◌≡◌, List, ◌∷◌, Ok, Some, sym, ap, ◌∙◌, subst}
use Rattle.net_rows.specs.Network.{Network}
use Rattle.network_law.specs.Checked.{IsChecked}
use Rattle.replay_script.specs.Lines.{Unread, next_line, said, answer_of}
use Rattle.net_replay.specs.Steps.{Step}
use Rattle.net_replay.specs.Replays.{IsSaidStep, IsSaidFault, Leads, Fails}
use Rattle.card_digits.specs.Lines.{lines}
use Rattle.net_replay.specs.Traces.{AreTraces}
use Rattle.net_replay.specs.Running.{IsAt}
use Rattle.net_replay.proofs.Runs.{are_run}
use Rattle.net_replay.proofs.Unread.{none_left, step_leads, step_fails, said_fails}
use Rattle.net_replay.proofs.run.run_lines.Goals as goal

pub loop-line-preserved : goal.loop-line-preserved
loop-line-preserved c =
    let inv = c.loop-line.invariant in
    let t = c.args.tables.now in
    let steps : List Step = inv.0 in
    let u : Unread = c.loop-line.unread in
    let next : next_line t u ≡ Some (Ok (said c.in-Ok.line)) = sym c.in-Some.ensures.line ∙ ap (λ z. Some (answer_of z)) c.in-Ok.is in
    let made = c.in_default-run_line.ensures.made steps inv.1 in
    let is : IsSaidStep t steps (said c.in-Ok.line) made.0 = subst (λ (z : Network). IsSaidStep z steps (said c.in-Ok.line) made.0) inv.2 made.1 in
    let rest = c.in-Some.ensures.rest in (
      made.0 ∷ steps,
      made.2,
      c.run_line.ensures.tables ∙ inv.2,
      c.number-number-in-Some.ensures,
      (λ last leads. inv.4 last (step_leads t steps u.number u.lines (said c.in-Ok.line) made.0 next is last (subst (λ (z : Unread). Leads t (made.0 ∷ steps) z.lines last) rest leads))),
      (λ f fails. inv.5 f (step_fails t steps u.number u.lines (said c.in-Ok.line) made.0 next is f (subst (λ (z : Unread). Fails t (made.0 ∷ steps) z.number z.lines f) rest fails))),
    )

pub returns-in-Err-run_line-clause-fault : goal.returns-in-Err-run_line-clause-fault
returns-in-Err-run_line-clause-fault c aside =
    let inv = c.loop-line.invariant in
    let t = c.args.tables.now in
    let steps = inv.0 in
    let u = c.loop-line.unread in
    let next : next_line t u ≡ Some (Ok (said c.in-Ok.line)) = sym c.in-Some.ensures.line ∙ ap (λ z. Some (answer_of z)) c.in-Ok.is in
    let fault : IsSaidFault t steps u.number (said c.in-Ok.line) c.in-Err-run_line.fault = subst (λ z. IsSaidFault t steps z (said c.in-Ok.line) c.in-Err-run_line.fault) inv.3 (subst (λ z. IsSaidFault z steps c.loop-line.number (said c.in-Ok.line) c.in-Err-run_line.fault) inv.2 (c.in-Err-run_line.ensures.fault aside steps inv.1)) in
    inv.5 c.in-Err-run_line.fault (said_fails t steps u.number u.lines (said c.in-Ok.line) next c.in-Err-run_line.fault fault)

pub returns-clause-run : goal.returns-clause-run
returns-clause-run c =
    let inv = c.loop-line.invariant in
    let t = c.args.tables.now in
    let none = c.in_default.ensures.line in
    let at : IsAt t c.loop-line.running.nodes.items c.loop-line.running.sent.items c.loop-line.running.line_nodes.items inv.0 = subst (λ (z : Network). IsAt z c.loop-line.running.nodes.items c.loop-line.running.sent.items c.loop-line.running.line_nodes.items inv.0) inv.2 inv.1.1 in
    let are = subst (λ (z : Network). AreTraces z inv.0 c.traces.result) inv.2 (c.traces.ensures inv.0 inv.1) in
    are_run t (subst IsChecked c.requires.tables c.requires.standing.0) (lines c.args.script.now) inv.0 c.traces.result (inv.4 inv.0 (none_left t inv.0 c.loop-line.unread.number c.loop-line.unread.lines (sym none))) are at.legal
