use Rattle.std.proofs.Common.{◌++◌, ℕ, List, [], ◌∷◌, codes, refl, ap, ◌∙◌, append-nil}
use Rattle.std.specs.Fmt.{decimal}
use Rattle.std.specs.List.{concat, flat_map}
use Rattle.std.proofs.lemmas.Result.{on_err_weaker, on_ok_weaker}
use Rattle.iso_message.proofs.SpansMore.{on_err}
use Rattle.bundle_text.specs.Lines.{node_name}
use Rattle.replay_text.specs.Lines.{output_text}
use Rattle.replay_text.proofs.SentTexts.{both_sent, front_sent, front_first}
use Rattle.replay_text.proofs.StepPieces.{step_pieces}
use Rattle.replay_text.proofs.steps.add_step.Goals as goal

pub returns-in_err-add_heading-clause-err : goal.returns-in_err-add_heading-clause-err
returns-in_err-add_heading-clause-err g c =
    let t = c.args.tables.now in
    on_err c.from_residual.result _ (front_first _ _ _ _ (flat_map (output_text t) c.args.entry.now.outputs) _ c.in_err-add_heading.ensures.err
    (step_pieces t c.args.number (record { node = c.args.node; entry = c.args.entry.now }) (decimal c.args.number) (node_name t c.args.node) refl refl))

pub returns-clause-ok : goal.returns-clause-ok
returns-clause-ok g c =
    let t = c.args.tables.now in
    let head : List ℕ = concat (decimal c.args.number ∷ codes " " ∷ node_name t c.args.node ∷ codes "\n" ∷ []) in
    let outs = c.as_slice.ensures ∙ c.outputs.ensures in
    let all = ap (λ z. head ++ flat_map (output_text t) z) outs ∙ step_pieces t c.args.number (record { node = c.args.node; entry = c.args.entry.now }) (decimal c.args.number) (node_name t c.args.node) refl refl in
    on_ok_weaker c.add_outputs.result (λ h. both_sent _ _ _ _ _ _ head (flat_map (output_text t) c.as_slice.result.now) _ c.in_ok-add_heading.ensures.ok h all) c.add_outputs.ensures.ok

pub returns-clause-err : goal.returns-clause-err
returns-clause-err g c =
    let t = c.args.tables.now in
    let head : List ℕ = concat (decimal c.args.number ∷ codes " " ∷ node_name t c.args.node ∷ codes "\n" ∷ []) in
    let outs = c.as_slice.ensures ∙ c.outputs.ensures in
    let all = ap (λ z. head ++ flat_map (output_text t) z) outs ∙ step_pieces t c.args.number (record { node = c.args.node; entry = c.args.entry.now }) (decimal c.args.number) (node_name t c.args.node) refl refl in
    on_err_weaker c.add_outputs.result (λ h. front_sent _ _ _ _ _ head (flat_map (output_text t) c.as_slice.result.now) [] _ c.in_ok-add_heading.ensures.ok h (ap (λ z. head ++ z) (append-nil (flat_map (output_text t) c.as_slice.result.now)) ∙ all)) c.add_outputs.ensures.err
