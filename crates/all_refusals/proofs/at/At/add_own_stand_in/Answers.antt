use Rattle.std.proofs.Common.{rules, ◌≡◌, ◌==◌, true, false, Some, None, refl, sym, ◌∙◌}
use Rattle.std.specs.Prelude.{slice_get, option_and_then}
use Rattle.std.specs.Cmp.Lexicographic.{pointwise}
use Rattle.std.proofs.lemmas.Result.{IfOk-weaker}
use Rattle.net_rows.specs.declared.row.StandIn.{StandIn}
use Rattle.rows_in_force.specs.InForce.{in_force}
use Rattle.table_checker.specs.declared.refusal.Refusal.TheVariants.{NoIssuer}
use Rattle.all_refusals.specs.Rows.{StandInRow}
use Rattle.all_refusals.proofs.Adding.{got}
use Rattle.all_refusals.proofs.Own.{nothing_own, one_own}
use Rattle.all_refusals.proofs.at.At.add_own_stand_in.Goals as goal

pub returns-in_default : goal.returns-in_default
returns-in_default c =
    let t = c.args.self.now.tables.now in
    let none : in_force (λ (r : StandIn). r.node) (λ (r : StandIn). r.prefix) t.stand_ins c.args.node c.args.self.now.class ≡ None = search rules in
    nothing_own (λ (r : StandIn). r.node) (λ (r : StandIn). r.prefix) StandInRow (NoIssuer c.args.node c.args.self.now.class) t.stand_ins c.args.node c.args.self.now.class t c.args.found.now.items None none refl

pub returns-then-ne : goal.returns-then-ne
returns-then-ne c =
    let t = c.args.self.now.tables.now in
    let row = c.in-Some-get.row.now in
    let at : slice_get t.stand_ins c.in-Some.place ≡ Some row = rw c.stand_ins.ensures at (got c.stand_ins.result.now c.in-Some.place row c.in-Some-get.ensures.lookup.0 c.in-Some-get.ensures.lookup.1) in
    let is : option_and_then (slice_get t.stand_ins) (Some c.in-Some.place) ≡ in_force (λ (r : StandIn). r.node) (λ (r : StandIn). r.prefix) t.stand_ins c.args.node c.args.self.now.class = search rules in
    let apart : pointwise ◌==◌ row.prefix c.args.self.now.class ≡ false = search rules in
    nothing_own (λ (r : StandIn). r.node) (λ (r : StandIn). r.prefix) StandInRow (NoIssuer c.args.node c.args.self.now.class) t.stand_ins c.args.node c.args.self.now.class t c.args.found.now.items (Some row) (sym is ∙ at) (rw apart refl)

pub returns : goal.returns
returns c =
    let t = c.args.self.now.tables.now in
    let row = c.in-Some-get.row.now in
    let at : slice_get t.stand_ins c.in-Some.place ≡ Some row = rw c.stand_ins.ensures at (got c.stand_ins.result.now c.in-Some.place row c.in-Some-get.ensures.lookup.0 c.in-Some-get.ensures.lookup.1) in
    let is : option_and_then (slice_get t.stand_ins) (Some c.in-Some.place) ≡ in_force (λ (r : StandIn). r.node) (λ (r : StandIn). r.prefix) t.stand_ins c.args.node c.args.self.now.class = search rules in
    let all : pointwise ◌==◌ row.prefix c.args.self.now.class ≡ true = search rules in
    IfOk-weaker c.add.result _ _ (λ _ adds. one_own (λ (r : StandIn). r.node) (λ (r : StandIn). r.prefix) StandInRow (NoIssuer c.args.node c.args.self.now.class) t.stand_ins c.args.node c.args.self.now.class t c.args.found.now.items row _ (sym is ∙ at) all (adds t (StandInRow row) (rw at refl))) c.add.ensures
