use Rattle.std.proofs.Common.{◌≡◌, Some, refl}
use Rattle.std.proofs.lemmas.Result.{IfOk-weaker}
use Rattle.table_checker.specs.Rules.{unranked}
use Rattle.all_refusals.specs.declared.row.TableRow.TheVariants as table
use Rattle.all_refusals.specs.Rows.{RouteRow, row_at, Adds}
use Rattle.all_refusals.specs.Found.{of_row}
use Rattle.all_refusals.proofs.Adding.{then}
use Rattle.all_refusals.proofs.at.At.add_no_ranks_of.Goals as goal

pub returns : goal.returns
returns c =
    let t = c.args.self.now.tables.now in
    let row = RouteRow c.args.row.now in
    let at : row_at t (table.Route c.args.place) ≡ Some row = rw c.requires.place refl in
    let own : Adds t c.args.found.now.items c.add.new.found.items (of_row row (unranked t c.args.self.now.cert.now c.args.self.now.class c.args.node)) = rw (← c.unranked-own.ensures) (c.in_ok-add.ensures t row at) in
    IfOk-weaker c.add_unranked_over.result _ _ (λ _ far. then t _ _ _ _ _ own far) c.add_unranked_over.ensures
