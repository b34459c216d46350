use Rattle.std.proofs.Common.{ℕ, ◌≤◌, ◌++◌, ◌∙◌, List, length, ap, arith}
use Rattle.std.proofs.lemmas.List.{take_all}
use Rattle.all_refusals.specs.declared.row.RowRefusal.{RowRefusal}
use Rattle.serde_json.specs.Data.{Data}
use Rattle.refusals_json.specs.Json.{json_line}
use Rattle.refusals_json.specs.ListedJson.{found_data, refusals_json}
use Rattle.refusals_json.proofs.JsonLines.{json_more}
use Rattle.refusals_json.proofs.listed_json.add_refusals.Goals as goal

pub loop-refusal-preserved : goal.loop-refusal-preserved
loop-refusal-preserved c =
    let t = c.args.tables.now in
    let before = c.args.text.now.items in
    let line = json_line (found_data t c.refusal-item.result) in
    c.in_ok-add_json_line.ensures
    ∙ ap (λ (d : Data). c.loop-refusal.text.items ++ json_line d) c.in_ok-value.ensures
    ∙ ap (λ (lines : List ℕ). lines ++ line) c.loop-refusal.invariant
    ∙ json_more t before c.args.found.now c.loop-refusal.refusal-index c.refusal-item.result c.loop-refusal-test.true c.refusal-item.is

pub returns : goal.returns
returns c =
    let all : length c.args.found.now ≤ c.loop-refusal.refusal-index = omega arith in
    c.loop-refusal.invariant ∙ ap (λ (found : List RowRefusal). c.args.text.now.items ++ refusals_json c.args.tables.now found) (take_all c.loop-refusal.refusal-index c.args.found.now all)
