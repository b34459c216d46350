use Rattle.std.proofs.Common.{rules, ◌≡◌, [], Some, refl, sym, ap, ◌∙◌}
use Rattle.std.specs.Prelude.{slice_get, option_and_then}
use Rattle.std.specs.Option.{option_map_or}
use Rattle.std.proofs.lemmas.Result.{IfOk-weaker}
use Rattle.net_rows.specs.Network.{stand_in}
use Rattle.net_rows.specs.declared.row.StandIn.{StandIn}
use Rattle.table_checker.specs.Rules.{not_named}
use Rattle.all_refusals.specs.Rows.{StandInRow}
use Rattle.all_refusals.specs.Found.{of_row}
use Rattle.all_refusals.proofs.Adding.{got, same_added}
use Rattle.all_refusals.proofs.at.At.add_unnamed_at.Goals as goal

pub returns : goal.returns
returns c =
    let t = c.args.self.now.tables.now in
    let row = c.in-Some-get.row.now in
    let refused = not_named t c.args.self.now.cert.now c.args.self.now.class c.args.named.now c.args.node in
    let at : slice_get t.stand_ins c.in-Some.place ≡ Some row = rw c.stand_ins.ensures at (got c.stand_ins.result.now c.in-Some.place row c.in-Some-get.ensures.lookup.0 c.in-Some-get.ensures.lookup.1) in
    let is : option_and_then (slice_get t.stand_ins) (Some c.in-Some.place) ≡ stand_in t c.args.node c.args.self.now.class = search rules in
    let one = ap (λ o. option_map_or (λ (s : StandIn). of_row (StandInRow s) refused) o []) (sym at ∙ is) in
    IfOk-weaker c.add.result _ _ (λ _ adds. same_added t _ _ _ _ (adds t (StandInRow row) (rw at refl)) (ap (of_row (StandInRow row)) c.not_named-refusal.ensures ∙ one)) c.add.ensures
