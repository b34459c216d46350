use Rattle.std.proofs.Common.{◌≡◌, ◌++◌, List, ℕ, drop}
use Rattle.std.specs.List.{flat_map}
use Rattle.message_text.specs.Printed.{Sends}
use Rattle.replay_text.specs.Lines.{output_text}
use Rattle.replay_text.proofs.steps.add_outputs.Given as goal

abbrev pub invariant-loop-output : goal.invariant-loop-output
invariant-loop-output g l = record {
  done : List ℕ;
  sends : Sends (g.W.Sink.written l.fn.writer) (g.W.Sink.written l.writer) l.initial.waiting.items done l.waiting.items;
  counts : g.W.Sink.failures l.writer ≡ g.W.Sink.failures l.fn.writer;
  whole : done ++ flat_map (output_text l.tables) (drop l.output-index l.outputs) ≡ flat_map (output_text l.tables) l.outputs;
}
