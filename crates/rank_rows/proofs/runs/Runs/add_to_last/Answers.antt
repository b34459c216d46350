use Rattle.std.proofs.Common.{◌≡◌, ◌<◌, true, length, drop, rules}
use Rattle.rank_rows.specs.Runs.{begins_with}
use Rattle.rank_rows.proofs.Growing.{after_run, last_known, begins_last}
use Rattle.rank_rows.proofs.runs.Runs.add_to_last.Goals as goal

pub invariant_of-self : goal.invariant_of-self
invariant_of-self c =
    let within : c.self.inside.last < length c.self.inside.rows.items = search rules in
    let is : begins_with (drop c.self.inside.last c.self.inside.rows.items) c.args.row.prefix ≡ true =
    begins_last c.self.inside.rows.items c.self.inside.begins.entries c.self.inside.last c.args.row.prefix c.self.invariant.0 within (rw c.self.view_is c.requires) in
    (after_run c.self.inside.rows.items c.add_to_run.new.rows.items c.self.inside.begins.entries c.self.inside.last c.args.row _ c.add_to_run.result c.self.invariant.0 is c.add_to_run.ensures.ok c.add_to_run.ensures.err, c.add_to_run.ensures.marked, c.add_to_run.ensures.greatest)

pub returns-then-self-len-clause-ok : goal.returns-then-self-len-clause-ok
returns-then-self-len-clause-ok c =
    let within : c.self.inside.last < length c.self.inside.rows.items = search rules in
    let is : begins_with (drop c.self.inside.last c.self.inside.rows.items) c.args.row.prefix ≡ true =
    begins_last c.self.inside.rows.items c.self.inside.begins.entries c.self.inside.last c.args.row.prefix c.self.invariant.0 within (rw c.self.view_is c.requires) in
    rw (← c.self.view_is, last_known c.self.inside.rows.items c.self.inside.begins.entries c.self.inside.last c.args.row c.self.invariant.0 is) c.add_to_run.ensures.ok
