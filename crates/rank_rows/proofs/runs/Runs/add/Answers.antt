use Rattle.std.proofs.Common.{◌≡◌, true, refl, length, drop}
use Rattle.rank_rows.specs.Runs.{begins_with}
use Rattle.rank_rows.proofs.Growing.{after_run, last_known, push_new}
use Rattle.rank_rows.proofs.Marked.{push_first}
use Rattle.rank_rows.proofs.GreatestName.{of_none}
use Rattle.rank_rows.specs.Marks.{place_of, is_marked}
use Rattle.rank_rows.proofs.runs.Runs.add.Goals as goal

pub invariant_of-self : goal.invariant_of-self
invariant_of-self c =
    let is : begins_with (drop c.self.inside.last c.self.inside.rows.items) c.args.row.prefix ≡ true = cc in
    (after_run c.self.inside.rows.items c.add_to_run.new.rows.items c.self.inside.begins.entries c.self.inside.last c.args.row _ c.add_to_run.result c.self.invariant.0 is c.add_to_run.ensures.ok c.add_to_run.ensures.err, c.add_to_run.ensures.marked, c.add_to_run.ensures.greatest)

pub returns-then-begins_with-clause-ok : goal.returns-then-begins_with-clause-ok
returns-then-begins_with-clause-ok c =
    let is : begins_with (drop c.self.inside.last c.self.inside.rows.items) c.args.row.prefix ≡ true = cc in
    rw (← c.self.view_is, last_known c.self.inside.rows.items c.self.inside.begins.entries c.self.inside.last c.args.row c.self.invariant.0 is) c.add_to_run.ensures.ok

pub invariant_of-self-then-branch : goal.invariant_of-self-then-branch
invariant_of-self-then-branch c =
    let e = c.in_ok-begin_run.ensures in
    let is : is_marked c.mark.new.self (place_of c.args.row.node) ≡ true = cc in
    let place : c.len-place.result ≡ length c.self.inside.rows.items = cc in
    rw (e.rows (rw c.if-branch.true refl), place)
    (push_new c.self.inside.rows.items c.self.inside.begins.entries c.begin_run.new.begins.entries c.self.inside.last c.args.row c.self.invariant.0 (e.new (rw c.if-branch.true refl)) (e.begins (rw c.if-branch.true refl)), push_first c.mark.new.self c.self.inside.rows.items c.args.row is, of_none _ _ c.none-self-inside-then-branch.ensures)
