use Rattle.std.proofs.Common.{rules, ◌≡◌, map}
use Rattle.all_refusals.specs.Rows.{shown}
use Rattle.all_refusals.specs.Found.{all_refusals}
use Rattle.all_refusals.proofs.First.{first_found_is}
use Rattle.all_refusals.proofs.all.refusals.Goals as goal

pub returns-clause-first : goal.returns-clause-first
returns-clause-first c =
    let all : map (shown c.args.tables.now) c.add_long_timers.new.found.items ≡ all_refusals c.args.tables.now c.args.cert.now = search rules in
    first_found_is c.args.tables.now c.args.cert.now c.add_long_timers.new.found.items all
