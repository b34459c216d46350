use Rattle.std.proofs.Common.{map, sym}
use Rattle.std.proofs.lemmas.Result.{err_from_is_err_and}
use Rattle.named_rows.specs.Reading.{named_entry}
use Rattle.named_rows.proofs.Entries.{entry_fails, entry_on}
use Rattle.named_rows.proofs.several.all_named.Goals as goal

pub returns-in_err-named : goal.returns-in_err-named
returns-in_err-named g c =
    let p = err_from_is_err_and c.from_residual.result c.from_residual.ensures.1 in
    rw (p.1, p.2) (entry_fails (named_entry (map g.R.Named.name_of c.args.rows.now) c.args.at) (g.P.Places.places c.loop-name.found) c.args.names.now c.loop-name.name-index c.name-item.result c.in_err-named.field-0.0 _ c.loop-name-test.true c.name-item.is c.loop-name.invariant (sym c.in_err-named.ensures.value))

pub loop-name-preserved : goal.loop-name-preserved
loop-name-preserved g c =
    rw c.in_ok-add.ensures (entry_on (named_entry (map g.R.Named.name_of c.args.rows.now) c.args.at) (g.P.Places.places c.loop-name.found) c.args.names.now c.loop-name.name-index c.name-item.result c.in_ok-named.field-0 _ c.loop-name-test.true c.name-item.is c.loop-name.invariant (sym c.in_ok-named.ensures.value))
