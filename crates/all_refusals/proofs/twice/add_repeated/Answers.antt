use Rattle.std.proofs.Common.{rules, ◌≡◌, ℕ, List, take, ap}
use Rattle.all_refusals.specs.Known.{id_refusal, id_row}
use Rattle.all_refusals.specs.Found.{of_row, again}
use Rattle.all_refusals.proofs.Adding.{same_added}
use Rattle.all_refusals.proofs.Repeats.{repeated_next, found_next}
use Rattle.all_refusals.proofs.twice.add_repeated.Goals as goal

pub loop-i-preserved : goal.loop-i-preserved
loop-i-preserved c =
    let ids : List (List ℕ) = c.args.ids.now in
    let x : List ℕ = c.index-ids-i.result in
    let row = id_row c.args.table c.loop-i.i in
    let is : c.id_again-refusal.result ≡ again (id_refusal c.args.table) (take c.loop-i.i ids) x = search rules in
    λ t.
    let adds = same_added t _ _ _ _ (c.in_ok-add.ensures t row (c.id_row.ensures t)) (ap (of_row row) is) in
    found_next t c.loop-i.found.items c.add.new.found.items _ _ _ _ adds (repeated_next (id_refusal c.args.table) (id_row c.args.table) ids c.loop-i.i x c.loop-i-test.true c.index-ids-i.is) (c.loop-i.invariant t)
