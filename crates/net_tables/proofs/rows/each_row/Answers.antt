use Rattle.std.proofs.Common.{[], ◌∷◌, refl, sym, subst, arith}
use Rattle.std.proofs.lemmas.List.{length-append}
use Rattle.std.proofs.lemmas.Result.{err_from_is_err_and}
use Rattle.toml.specs.View.{table_view}
use Rattle.table_fields.specs.Shapes.{tables_view}
use Rattle.named_rows.specs.Each.{each}
use Rattle.net_tables.specs.AllRows.{numbered}
use Rattle.net_tables.proofs.Loops.{each_fails_unless, each_on, each_end}
use Rattle.net_tables.proofs.Loops.{all_pushed}
use Rattle.net_tables.proofs.rows.each_row.Goals as goal

pub loop-i-init : goal.loop-i-init
loop-i-init g c = rw c.new-done.ensures.items (record { same = refl; counted = refl; known = c.requires; fit = tt })

pub read-requires : goal.read-requires
read-requires g c = subst (λ done. g.R.RowReader.knows c.args.reader.now c.loop-i.taken done) (sym c.deref.ensures.value) c.loop-i.invariant.known

pub returns-in_err-read-clause-value : goal.returns-in_err-read-clause-value
returns-in_err-read-clause-value g c =
    let p = err_from_is_err_and c.from_residual.result c.from_residual.ensures.1 in
    let refused = rw (c.deref.ensures.value, ← c.loop-i.invariant.counted) at c.in_err-read.ensures.value in
    rw (p.1, p.2) (each_fails_unless (λ t. table_view t.now) (numbered c.args.table (g.R.RowReader.reads c.args.reader.now)) c.loop-i.done.items c.args.rows.now c.loop-i.i c.index-rows-i.result c.in_err-read.field-0.0 (each (numbered c.args.table (g.R.RowReader.reads c.args.reader.now)) [] (tables_view c.args.rows.now)) c.loop-i-test.true c.index-rows-i.is c.loop-i.invariant.same refused)

pub loop-i-preserved : goal.loop-i-preserved
loop-i-preserved g c =
    let h = c.loop-i.invariant in
    let read = rw (c.deref.ensures.value, ← c.loop-i.invariant.counted) at c.in_ok-read.ensures.value in
    let known = rw c.deref.ensures.value at c.in_ok-read.ensures.taken in
    rw c.in_ok-push.ensures.items (record {
      same = each_on (λ t. table_view t.now) (numbered c.args.table (g.R.RowReader.reads c.args.reader.now)) c.loop-i.done.items c.args.rows.now c.loop-i.i c.index-rows-i.result c.in_ok-read.read (each (numbered c.args.table (g.R.RowReader.reads c.args.reader.now)) [] (tables_view c.args.rows.now)) c.loop-i-test.true c.index-rows-i.is h.same read;
      counted = omega (arith, length-append c.loop-i.done.items (c.in_ok-read.read ∷ []), h.counted);
      known = known;
      fit = all_pushed _ c.loop-i.done.items c.in_ok-read.read h.fit c.in_ok-read.ensures.fits;
    })

pub returns-clause-value : goal.returns-clause-value
returns-clause-value g c = each_end (λ t. table_view t.now) (numbered c.args.table (g.R.RowReader.reads c.args.reader.now)) c.loop-i.done.items c.args.rows.now c.loop-i.i (each (numbered c.args.table (g.R.RowReader.reads c.args.reader.now)) [] (tables_view c.args.rows.now)) (omega (arith, c.loop-i-test.false)) c.loop-i.invariant.same
