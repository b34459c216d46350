use Rattle.std.proofs.Common.{◌++◌, ◌+◌, drop, refl, ◌∙◌, append_assoc}
use Rattle.std.specs.List.{flat_map}
use Rattle.iso_message.proofs.SpansMore.{on_err}
use Rattle.replay_text.specs.Lines.{output_text}
use Rattle.replay_text.proofs.SentTexts.{both_sent, front_sent, next_item}
use Rattle.replay_text.proofs.steps.add_outputs.Goals as goal

pub returns-in_err-add_output-clause-err : goal.returns-in_err-add_output-clause-err
returns-in_err-add_output-clause-err g c =
    let l = c.loop-output in
    let t = c.args.tables.now in
    on_err c.from_residual.result _ (front_sent _ _ _ _ _ l.invariant.done (output_text t c.output-item.result) (flat_map (output_text t) (drop (l.output-index + 1) c.args.outputs.now)) _ l.invariant.sends c.in_err-add_output.ensures.err
    (next_item (flat_map (output_text t)) (output_text t) (λ x xs. refl) c.args.outputs.now l.output-index c.output-item.result l.invariant.done _ c.loop-output-test.true c.output-item.is l.invariant.whole))

pub loop-output-preserved : goal.loop-output-preserved
loop-output-preserved g c =
    let l = c.loop-output in
    let t = c.args.tables.now in
    record {
      done = l.invariant.done ++ output_text t c.output-item.result;
      sends = both_sent _ _ _ _ _ _ l.invariant.done (output_text t c.output-item.result) _ l.invariant.sends c.in_ok-add_output.ensures.ok refl;
      counts = rw c.in_ok-add_output.ensures.counts l.invariant.counts;
      whole = append_assoc l.invariant.done (output_text t c.output-item.result) (flat_map (output_text t) (drop (l.output-index + 1) c.args.outputs.now)) ∙ next_item (flat_map (output_text t)) (output_text t) (λ x xs. refl) c.args.outputs.now l.output-index c.output-item.result l.invariant.done _ c.loop-output-test.true c.output-item.is l.invariant.whole;
    }
