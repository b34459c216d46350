use Rattle.std.proofs.Common.{◌∙◌, ap, length, arith}
use Rattle.std.proofs.lemmas.Result.{IfOk-weaker}
use Rattle.net_replay.specs.Merged.{merged}
use Rattle.net_replay.specs.Traces.{TracesView}
use Rattle.net_replay.proofs.Merging.{rests_of, merged_is, merged_length}
use Rattle.net_replay.proofs.traces.Traces.steps.Goals as goal

pub returns-clause-steps : goal.returns-clause-steps
returns-clause-steps c =
    let nodes = c.as_slice.ensures.value ∙ ap (λ (v : TracesView). v.nodes) c.self.view_is in
    let lines = c.as_slice-2.ensures.value ∙ ap (λ (v : TracesView). v.line_nodes) c.self.view_is in
    IfOk-weaker c.new.result _ _
    (λ s is t steps are. is ∙ (ap (λ z. merged (rests_of z) c.as_slice-2.result.now) nodes ∙ (ap (merged (rests_of c.args.self.now.nodes)) lines ∙ merged_is t steps c.args.self.now are)))
    c.new.ensures.steps

pub returns-clause-few : goal.returns-clause-few
returns-clause-few c =
    let bound = c.as_slice-2.type_inv.1 in
    IfOk-weaker c.new.result _ _
    (λ s is. let all = merged_length (rests_of c.as_slice.result.now) c.as_slice-2.result.now in omega (arith, all, ap length is, bound))
    c.new.ensures.steps
