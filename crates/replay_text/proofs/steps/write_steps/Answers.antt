use Rattle.std.proofs.Common.{◌≡◌, ◌++◌, ◌+◌, [], length, refl, sym, ap, subst, ◌∙◌, append_assoc, append-nil, arith}
use Rattle.std.proofs.lemmas.Result.{on_err_weaker}
use Rattle.card_digits.specs.Stream.{AppendsFront}
use Rattle.iso_message.proofs.SpansMore.{on_err}
use Rattle.net_replay.specs.Steps.{Step}
use Rattle.replay_text.specs.Lines.{ordered_text, step_text}
use Rattle.replay_text.specs.Fronts.{SendsFront}
use Rattle.replay_text.proofs.SentTexts.{both_sent, front_sent, front_all, next_ordered}
use Rattle.replay_text.proofs.steps.write_steps.Goals as goal

pub returns-in_err-add_step-clause-err : goal.returns-in_err-add_step-clause-err
returns-in_err-add_step-clause-err g c =
    let l = c.loop-step in
    let t = c.args.tables.now in
    let s : Step = record { node = c.in-Some.step.node; entry = c.in-Some.step.entry.now } in
    let left = c.next_step.new.self in
    on_err c.from_residual.result _ (SendsFront.front (front_sent _ _ _ [] _ l.invariant.done (step_text t (l.number + 1) s) (ordered_text t (l.number + 1 + 1) left) _ l.invariant.sends c.in_err-add_step.ensures.err
    (next_ordered t l.number s l.steps left l.invariant.done _ c.in-Some.ensures l.invariant.whole)))

pub loop-step-preserved : goal.loop-step-preserved
loop-step-preserved g c =
    let l = c.loop-step in
    let t = c.args.tables.now in
    let s : Step = record { node = c.in-Some.step.node; entry = c.in-Some.step.entry.now } in
    let left = c.next_step.new.self in
    let text = step_text t (l.number + 1) s in
    record {
      done = l.invariant.done ++ text;
      sends = both_sent _ _ _ _ _ _ l.invariant.done text _ l.invariant.sends c.in_ok-add_step.ensures.ok refl;
      counts = rw c.in_ok-add_step.ensures.counts l.invariant.counts;
      whole = append_assoc l.invariant.done text (ordered_text t (l.number + 1 + 1) left) ∙ next_ordered t l.number s l.steps left l.invariant.done _ c.in-Some.ensures l.invariant.whole;
      few = omega (arith, l.invariant.few, ap length c.in-Some.ensures);
    }

pub returns-clause-err : goal.returns-clause-err
returns-clause-err g c =
    let l = c.loop-step in
    let t = c.args.tables.now in
    let all : l.invariant.done ≡ ordered_text t 1 c.args.steps.now = sym (append-nil l.invariant.done) ∙ (ap (λ z. l.invariant.done ++ ordered_text t (l.number + 1) z) (sym c.in_default.ensures.0) ∙ l.invariant.whole) in
    on_err_weaker c.send.result (λ h. subst (AppendsFront _ _) all (front_all _ _ _ _ _ l.invariant.sends h)) c.send.ensures.err
