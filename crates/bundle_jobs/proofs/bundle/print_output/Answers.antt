use Rattle.std.proofs.lemmas.Result.{on_err_weaker, IfOk-weaker}
use Rattle.bundle_input.specs.Input.{IsCause}
use Rattle.bundle_jobs.specs.Bundle.{IsAnswer}
use Rattle.bundle_input.proofs.OutputLemmas.{output_of}
use Rattle.bundle_jobs.proofs.bundle.print_output.Goals as goal

pub returns-in-Ok-clause-ok : goal.returns-in-Ok-clause-ok
returns-in-Ok-clause-ok g c =
    IfOk-weaker c.print_input.result _ _ (λ s w. (w.0, output_of g.R.Source c.args.reader.now c.read_all.new.reader (IsAnswer c.args.job) c.in-Ok.input.items c.in-Ok.ensures.whole c.in-Ok.ensures.short w.0 w.1, w.2, w.3)) c.print_input.ensures.ok

pub returns-in-Ok-clause-err : goal.returns-in-Ok-clause-err
returns-in-Ok-clause-err g c =
    on_err_weaker c.print_input.result (λ w. (w.0, output_of g.R.Source c.args.reader.now c.read_all.new.reader (IsAnswer c.args.job) c.in-Ok.input.items c.in-Ok.ensures.whole c.in-Ok.ensures.short w.0 w.1, w.2)) c.print_input.ensures.err

pub returns-in-Err-clause-ok : goal.returns-in-Err-clause-ok
returns-in-Err-clause-ok g c = IfOk-weaker c.write_cause.result _ _ (λ s w. (w.0, IsCause c.in-Err.cause c.in-Err.ensures.cause w.1, w.2, w.3)) c.write_cause.ensures.ok

pub returns-in-Err-clause-err : goal.returns-in-Err-clause-err
returns-in-Err-clause-err g c = on_err_weaker c.write_cause.result (λ w. (w.0, IsCause c.in-Err.cause c.in-Err.ensures.cause w.1, w.2)) c.write_cause.ensures.err
