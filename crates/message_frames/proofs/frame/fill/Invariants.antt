use Rattle.std.proofs.Common.{◌≡◌, ◌≤◌, ◌-◌, take, length}
use Rattle.std.specs.Io.KnownBytes.{Consumes}
use Rattle.card_digits.specs.Stream.{TookTurns}
use Rattle.message_frames.proofs.frame.fill.Given as goal

abbrev pub invariant-loop-done : goal.invariant-loop-done
invariant-loop-done g l = record {
  within : l.done ≤ length l.buffer;
  taken : Consumes (g.R.Source.remaining l.fn.reader) (g.R.Source.remaining l.reader) (take l.done l.buffer);
  counts : g.R.Source.failures l.reader ≡ g.R.Source.failures l.fn.reader;
  left : l.turns ≤ l.fn.turns;
  spent : TookTurns (l.fn.turns - l.turns) (g.R.Source.turns l.fn.reader) (g.R.Source.turns l.reader);
}

abbrev pub decreases-loop-done : goal.decreases-loop-done
decreases-loop-done g l = l.turns
