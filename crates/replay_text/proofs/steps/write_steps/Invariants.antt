use Rattle.std.proofs.Common.{◌≡◌, ◌<◌, ◌+◌, ◌^◌, ◌++◌, List, ℕ, [], length}
use Rattle.message_text.specs.Printed.{Sends}
use Rattle.replay_text.specs.Lines.{ordered_text}
use Rattle.replay_text.proofs.steps.write_steps.Given as goal

abbrev pub invariant-loop-step : goal.invariant-loop-step
invariant-loop-step g l = record {
  done : List ℕ;
  sends : Sends (g.W.Sink.written l.fn.writer) (g.W.Sink.written l.writer) [] done l.waiting.items;
  counts : g.W.Sink.failures l.writer ≡ g.W.Sink.failures l.fn.writer;
  whole : done ++ ordered_text l.tables (l.number + 1) l.steps ≡ ordered_text l.tables 1 l.initial.steps;
  few : l.number + length l.steps < 2 ^ 63;
}

abbrev pub decreases-loop-step : goal.decreases-loop-step
decreases-loop-step g l = length l.steps
