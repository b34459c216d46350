use Rattle.std.proofs.Common.{◌≡◌, replicate}
use Rattle.plan_threads.specs.declared.queue.Standing.TheVariants.{Out}
use Rattle.plan_threads.proofs.queue.Queue.new.Given as goal

abbrev pub invariant-loop : goal.invariant-loop
invariant-loop l = l.standings.items ≡ replicate l.counter Out
