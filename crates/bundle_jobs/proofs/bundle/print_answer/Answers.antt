use Rattle.std.proofs.Common.{◌≡◌, Err, IfOk, sym, subst}
use Rattle.message_text.specs.declared.fault.PrintFault.TheVariants.{Write}
use Rattle.bundle_text.specs.Answers.{Wrote, WroteFront}
use Rattle.bundle_jobs.specs.Bundle.{IsAnswer}
use Rattle.command_line.specs.declared.job.Job.{Job}
use Rattle.bundle_jobs.proofs.bundle.print_answer.Goals as goal

-- what `write_replayed` says of `Replay` is said of the job, which is `Replay` here
pub returns-in-Replay-clause-ok : goal.returns-in-Replay-clause-ok
returns-in-Replay-clause-ok g c = subst (λ (job : Job). IfOk c.write_replayed.result (Wrote (IsAnswer job c.args.input.items) (g.W.Sink.written c.args.writer.now) (g.W.Sink.written c.write_replayed.new.writer))) (sym c.in-Replay.is) (rw c.deref-in-Replay.ensures.value at c.write_replayed.ensures.ok)

pub returns-in-Replay-clause-write : goal.returns-in-Replay-clause-write
returns-in-Replay-clause-write g c = subst (λ (job : Job). c.write_replayed.result ≡ Err Write → WroteFront (IsAnswer job c.args.input.items) (g.W.Sink.written c.args.writer.now) (g.W.Sink.written c.write_replayed.new.writer)) (sym c.in-Replay.is) (rw c.deref-in-Replay.ensures.value at c.write_replayed.ensures.write)
