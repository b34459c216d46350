use Rattle.std.proofs.Common.{OnErr, sym, subst}
use Rattle.bundle_text.specs.Answers.{WroteFront}
use Rattle.bundle_jobs.specs.Bundle.{IsOutput}
use Rattle.command_line.specs.declared.job.Job.{Job}
use Rattle.bundle_jobs.proofs.bundle.run_bundle.Goals as goal

-- what `run_threads` says of `Run` is said of the job, which is `Run` here
pub returns-in-Run-clause-err : goal.returns-in-Run-clause-err
returns-in-Run-clause-err g c = subst (λ (job : Job). OnErr c.run_threads.result (WroteFront (IsOutput g.R.Source c.args.reader.now c.run_threads.new.reader job) (g.W.Sink.written c.args.writer.now) (g.W.Sink.written c.run_threads.new.writer))) (sym c.in-Run.is) c.run_threads.ensures.err
