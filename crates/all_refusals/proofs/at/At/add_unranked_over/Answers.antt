use Rattle.std.proofs.Common.{rules, ◌≡◌, Some, refl}
use Rattle.table_checker.specs.Rules.{unranked_over}
use Rattle.all_refusals.specs.declared.row.TableRow.TheVariants as table
use Rattle.all_refusals.specs.Rows.{RouteRow, row_at, Adds}
use Rattle.all_refusals.specs.Found.{of_row}
use Rattle.all_refusals.proofs.Adding.{next}
use Rattle.all_refusals.proofs.at.At.add_unranked_over.Goals as goal

pub loop-link-preserved : goal.loop-link-preserved
loop-link-preserved c =
    let t = c.args.self.now.tables.now in
    let row = RouteRow c.args.row.now in
    let at : row_at t (table.Route c.args.place) ≡ Some row = rw c.requires.place refl in
    let far : c.unranked-far.result ≡ unranked_over t c.args.self.now.cert.now c.args.self.now.class c.args.node c.link-item.result = search rules in
    let new : Adds t c.loop-link.found.items c.add.new.found.items (of_row row (unranked_over t c.args.self.now.cert.now c.args.self.now.class c.args.node c.link-item.result)) = rw (← far) (c.in_ok-add.ensures t row at) in
    next t (λ k. of_row row (unranked_over t c.args.self.now.cert.now c.args.self.now.class c.args.node k)) _ c.loop-link.link-index c.link-item.result _ _ _ c.loop-link-test.true c.link-item.is c.loop-link.invariant new
